-- "A time is a pair (a,b) of 32-bit unsigned numbers. 'At or below' is in both parts. 'Ascending' is lexicographic. Join and meet are
-- the larger and smaller in each part. The least time is (0,0), a named constant of the type."
-- "A meet may be absent; each use takes the present case and otherwise goes on unchanged."
--
-- A time is packed as a * 2^32 + b, so ascending is the order of the numbers, and every number is a time: no law asks for a bound.
--
-- at a b: the time (a,b). hi, lo: its parts. least_time: (0,0)
-- join, meet: of two times. below s t: s is at or below t
-- joined m t: t joined with m, or t if m is absent
-- meet_onto, meets: the meet of a time, of a list of times, and an optional meet
-- put, puts: times put into a set of times, which is a strictly ascending list
use Rattle.std.specs.Prelude.{ℕ, ◌+◌, ◌*◌, ◌/◌, ◌%◌, max, min, Bool, cond, ◌&&◌, List, [], ◌∷◌, leb, ltb, eqb}
use Rattle.std.proofs.Math.Option.{Option, none, some}

-- how many numbers a part can be
abbrev pub span : ℕ
span = 4294967296

unfoldable pub hi : ℕ → ℕ
hi t = t / span

unfoldable pub lo : ℕ → ℕ
lo t = t % span

unfoldable pub at : ℕ → ℕ → ℕ
at a b = a * span + b

unfoldable pub least_time : ℕ
unfolding at
least_time = at 0 0

unfoldable pub join : ℕ → ℕ → ℕ
join s t = at (max (hi s) (hi t)) (max (lo s) (lo t))

unfoldable pub meet : ℕ → ℕ → ℕ
meet s t = at (min (hi s) (hi t)) (min (lo s) (lo t))

unfoldable pub below : ℕ → ℕ → Bool
below s t = leb (hi s) (hi t) && leb (lo s) (lo t)

unfoldable pub joined : Option ℕ → ℕ → ℕ
joined none t = t
joined (some m) t = join m t

unfoldable pub meet_onto : ℕ → Option ℕ → ℕ
meet_onto t none = t
meet_onto t (some m) = meet t m

unfoldable pub meets : List ℕ → Option ℕ → Option ℕ
meets [] o = o
meets (t ∷ ts) o = some (meet_onto t (meets ts o))

abbrev pub put : ℕ → List ℕ → List ℕ
put t [] = t ∷ []
put t (u ∷ us) = let r = put t us in cond (ltb t u) (t ∷ u ∷ us) (cond (eqb t u) (u ∷ us) (u ∷ r))

abbrev pub puts : List ℕ → List ℕ → List ℕ
puts [] us = us
puts (t ∷ ts) us = put t (puts ts us)
