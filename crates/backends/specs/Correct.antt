-- "The correction is wanted minus present, by ascending value", as a walk over a summed input and a summed output.
--
-- distinct_minus input output: what distinct wants of the input, minus the output
-- turn: which of the two heads the walk takes
-- Ready: what the walk asks of its columns. Segment: what a key's correction asks
use Rattle.std.specs.Prelude.{ℕ, ◌+◌, ◌≤◌, cond, List, [], ◌∷◌, ◌++◌, ◌≡◌, ltb, ℤ, length}
use Rattle.grid.specs.Consolidate.{consolidate}
use Rattle.grid.proofs.Lists.{All}
use Rattle.grid.proofs.Consolidate.{Canon}
use Rattle.rules.specs.Backends.{Sums, listed, distinct, minus}
use Rattle.diffs.specs.Diffs.{modest}
use Rattle.backends.specs.declared.correction.Turn.{Turn}
use Rattle.backends.specs.declared.correction.Turn.TheVariants.{Input, Output, Both, Unlisted}
use Rattle.backends.specs.Columns.{entries}

unfoldable pub distinct_minus : Sums → Sums → Sums
distinct_minus input output = consolidate ltb (distinct input ++ minus output)

unfoldable pub turn : Sums → List ℕ → Turn
turn [] vs = Output
turn (x ∷ xs) [] = cond (listed x.1) Input Unlisted
turn (x ∷ xs) (v ∷ vs) = cond (listed x.1) (cond (ltb x.0 v) Input (cond (ltb v x.0) Output Both)) Unlisted

pub record Ready (iv : List ℕ) (id : List ℤ) (ov : List ℕ) (od : List ℤ) (cv : List ℕ) (cd : List ℤ) (at : ℕ) : Type 0 where
  pub same_i : length id ≡ length iv
  pub same_o : length od ≡ length ov
  pub same_c : length cd ≡ length cv
  pub room : at + length iv + length ov ≤ length cv
  pub canon_i : Canon ltb (entries iv id)
  pub canon_o : Canon ltb (entries ov od)
  pub small_o : All modest od

pub record Segment (iv : List ℕ) (id : List ℤ) (ov : List ℕ) (od : List ℤ) (cv : List ℕ) (cd : List ℤ) (at : ℕ) : Type 0 where
  pub ready : Ready iv id ov od cv cd at
  pub short : length id ≤ 8192
  pub small_i : All modest id
