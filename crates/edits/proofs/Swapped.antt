-- Edits by (value, time): the order of a buffer is that of its edits with time and value swapped.
--
-- swapped: an edit with value first. swapped_edits: so are the edits of the columns with values first
-- consolidate_swapped: with values first, the order of pairs consolidates a buffer
-- edits-joined: times joined in their column are joined in the edits
use Prim.Native.Nat.{ℕ}
use mathlib.Core.List.{List, [], ◌∷◌, map}
use mathlib.Core.Path.{◌≡◌, refl, ap}
use lib.Dec.{ltb}
use lib.IntN.{ℤ}
use Rattle.grid.specs.Consolidate.{lex, consolidate}
use Rattle.grid.specs.Times.{joined}
use mathlib.Core.Option.{Option}
use Rattle.consolidation.proofs.Laws.{consolidate_map}
use Rattle.rules.specs.Histories.{Edit, by_value, joined_edit}
use Rattle.edits.specs.Edits.{edits}

-- ---- value first
abbrev pub swap : ℕ × ℕ → ℕ × ℕ
swap k = (k.1, k.0)

abbrev pub swapped : Edit → Edit
swapped e = (swap e.0, e.1)

pub swapped_edits : (ts vs : List ℕ) (ds : List ℤ) → edits vs ts ds ≡ map swapped (edits ts vs ds)
unfolding edits
swapped_edits [] [] ds = refl
swapped_edits [] (v ∷ vs) ds = refl
swapped_edits (t ∷ ts) [] ds = refl
swapped_edits (t ∷ ts) (v ∷ vs) [] = refl
swapped_edits (t ∷ ts) (v ∷ vs) (d ∷ ds) = ap (λ l. ((v, t), d) ∷ l) (swapped_edits ts vs ds)

pub consolidate_swapped : (es : List Edit) → consolidate (lex ltb ltb) (map swapped es) ≡ map swapped (consolidate by_value es)
consolidate_swapped es = consolidate_map swap (lex ltb ltb) es

pub edits-joined : (o : Option ℕ) (ts vs : List ℕ) (ds : List ℤ) → edits (map (joined o) ts) vs ds ≡ map (joined_edit o) (edits ts vs ds)
unfolding edits joined_edit
edits-joined o [] vs ds = refl
edits-joined o (t ∷ ts) [] ds = refl
edits-joined o (t ∷ ts) (v ∷ vs) [] = refl
edits-joined o (t ∷ ts) (v ∷ vs) (d ∷ ds) = ap (λ l. ((joined o t, v), d) ∷ l) (edits-joined o ts vs ds)
