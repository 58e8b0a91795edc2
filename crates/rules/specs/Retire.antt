-- "Retire. Changed keys: keys of seeds and pending, ascending, cut into windows of the width. Round j of a window takes the j-th moment t of
-- each key that has one. A key's input and output (with its corrections so far) are summed over times at or below t; if both are empty the
-- key is skipped. The others cross to the backend together. Crossings counts the rounds in which at least one key crossed; a window has at
-- most as many as its longest list of moments. A round without crossings doesn't end the window."
--
-- seen t es: what is seen of es at t: its diffs at times at or below t, summed by value
-- crosses: whether a key with these sums crosses
-- Round: a key's part in a round. settle: its rounds, one for each moment
-- dated t c: corrections as edits at t. corrections: those of all rounds
-- windows: a list cut into parts of the width. either, rounds_of: in which rounds some key of a window crossed
-- crossings: over all windows
use Rattle.std.specs.Prelude.{ℕ, zero, suc, Bool, cond, ◌&&◌, ◌||◌, not, List, [], ◌∷◌, ◌++◌, map, ltb, length, take, drop}
use Rattle.grid.specs.Lists.{keep, is_empty, flat}
use Rattle.grid.specs.Times.{below}
use Rattle.grid.specs.Consolidate.{consolidate}
use Rattle.rules.specs.Histories.{Edit, time_of, value_of}
use Rattle.rules.specs.Backends.{Sums, correction}

unfoldable pub seen : ℕ → List Edit → Sums
seen t es = consolidate ltb (map (λ e. (value_of e, e.1)) (keep (λ e. below (time_of e) t) es))

unfoldable pub crosses : Sums → Sums → Bool
crosses input output = not (is_empty input && is_empty output)

unfoldable pub dated : ℕ → Sums → List Edit
dated t c = map (λ p. ((t, p.0), p.1)) c

pub record Round : Type 0 where
  pub time : ℕ
  pub crossed : Bool
  pub fixes : Sums

unfoldable pub round_at : ℕ → List Edit → List Edit → ℕ → Round
round_at mode input output t =
    let i = seen t input in
    let o = seen t output in
    let c = correction mode i o in
    record { time = t; crossed = crosses i o; fixes = cond (crosses i o) c [] }

unfoldable pub settle : ℕ → List Edit → List Edit → List ℕ → List Round
settle mode input output [] = []
settle mode input output (t ∷ ts) =
    let r = round_at mode input output t in
    r ∷ settle mode input (output ++ dated t r.fixes) ts

unfoldable pub corrections : List Round → List Edit
corrections rs = flat (λ (r : Round). dated r.time r.fixes) rs

abbrev pub windows : {A : Type 0} → ℕ → ℕ → List A → List (List A)
windows zero width xs = []
windows (suc k) width xs = let r = take width xs ∷ windows k width (drop width xs) in cond (is_empty xs) [] r

abbrev pub either : List Bool → List Bool → List Bool
either [] bs = bs
either (a ∷ as') [] = a ∷ as'
either (a ∷ as') (b ∷ bs) = (a || b) ∷ either as' bs

abbrev pub rounds_of : List (List Bool) → List Bool
rounds_of [] = []
rounds_of (k ∷ ks) = either k (rounds_of ks)

-- keys: for each changed key, in which of its rounds it crossed
unfoldable pub crossings : ℕ → List (List Bool) → ℕ
crossings width keys = length (flat (λ w. keep (λ b. b) (rounds_of w)) (windows (length keys) width keys))
