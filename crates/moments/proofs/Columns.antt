-- Edits in three columns.
--
-- edits_values, edits_times, edits-diffs, edits-at: what stands in columns of one length. edits-length, edits_long: how many edits there are, at most and of columns of one length
-- edits-append: columns one after the other. edits_of_columns: the columns of edits
-- take-edits, drop-edits: the front of each column, and what follows it. part-edits: a part of each. front_edits: the part from 0 on
use Prim.Native.Nat.{ℕ, zero, suc, ◌-◌, ◌<◌, ◌≤◌}
use native.Mathlib.Omega.{arith}
use mathlib.Core.Path.{◌≡◌, refl, sym, ◌∙◌, ap}
use mathlib.Core.List.{List, [], ◌∷◌, ◌++◌, map}
use lib.IntN.{ℤ, pos}
use lib.ListN.{length, take, drop, get_or, length-map}
use Rattle.grid.proofs.Operations.{no_length}
use Rattle.rules.specs.Histories.{Edit, time_of, value_of}
use Rattle.backends.specs.Segments.{part}
use Rattle.backends.proofs.Columns.{less}
use Rattle.moments.specs.Present.{edits}

-- ---- columns of one length
abbrev pub e₀ : Edit
e₀ = ((0, 0), pos 0)

pub edits_values : (vs ts : List ℕ) (ds : List ℤ) → length ts ≡ length vs → length ds ≡ length vs → map value_of (edits vs ts ds) ≡ vs
unfolding edits value_of
edits_values [] ts ds a b = refl
edits_values (v ∷ vs) [] ds a b = no_length (length vs) (sym a)
edits_values (v ∷ vs) (t ∷ ts) [] a b = no_length (length vs) (sym b)
edits_values (v ∷ vs) (t ∷ ts) (d ∷ ds) a b = ap (λ l. v ∷ l) (edits_values vs ts ds (less a) (less b))

pub edits_times : (vs ts : List ℕ) (ds : List ℤ) → length ts ≡ length vs → length ds ≡ length vs → map time_of (edits vs ts ds) ≡ ts
unfolding edits time_of
edits_times [] [] ds a b = refl
edits_times [] (t ∷ ts) ds a b = no_length (length ts) a
edits_times (v ∷ vs) [] ds a b = no_length (length vs) (sym a)
edits_times (v ∷ vs) (t ∷ ts) [] a b = no_length (length vs) (sym b)
edits_times (v ∷ vs) (t ∷ ts) (d ∷ ds) a b = ap (λ l. t ∷ l) (edits_times vs ts ds (less a) (less b))

pub edits-diffs : (vs ts : List ℕ) (ds : List ℤ) → length ts ≡ length vs → length ds ≡ length vs → map (λ (e : Edit). e.1) (edits vs ts ds) ≡ ds
unfolding edits
edits-diffs [] ts [] a b = refl
edits-diffs [] ts (d ∷ ds) a b = no_length (length ds) b
edits-diffs (v ∷ vs) [] ds a b = no_length (length vs) (sym a)
edits-diffs (v ∷ vs) (t ∷ ts) [] a b = no_length (length vs) (sym b)
edits-diffs (v ∷ vs) (t ∷ ts) (d ∷ ds) a b = ap (λ l. d ∷ l) (edits-diffs vs ts ds (less a) (less b))

pub edits-at : (vs ts : List ℕ) (ds : List ℤ) (i : ℕ) → length ts ≡ length vs → length ds ≡ length vs → i < length vs → get_or (edits vs ts ds) i e₀ ≡ ((get_or ts i 0, get_or vs i 0), get_or ds i (pos 0))
unfolding edits
edits-at [] ts ds i a b h = absurd (omega arith)
edits-at (v ∷ vs) [] ds i a b h = no_length (length vs) (sym a)
edits-at (v ∷ vs) (t ∷ ts) [] i a b h = no_length (length vs) (sym b)
edits-at (v ∷ vs) (t ∷ ts) (d ∷ ds) zero a b h = refl
edits-at (v ∷ vs) (t ∷ ts) (d ∷ ds) (suc i) a b h = edits-at vs ts ds i (less a) (less b) (omega arith)

pub edits_long : (vs ts : List ℕ) (ds : List ℤ) → length ts ≡ length vs → length ds ≡ length vs → length (edits vs ts ds) ≡ length vs
edits_long vs ts ds a b = sym (length-map (edits vs ts ds) value_of) ∙ ap length (edits_values vs ts ds a b)

pub edits-append : (vs ts : List ℕ) (ds : List ℤ) (vs' ts' : List ℕ) (ds' : List ℤ) → length ts ≡ length vs → length ds ≡ length vs
    → edits (vs ++ vs') (ts ++ ts') (ds ++ ds') ≡ edits vs ts ds ++ edits vs' ts' ds'
unfolding edits
edits-append [] [] [] vs' ts' ds' a b = refl
edits-append [] [] (d ∷ ds) vs' ts' ds' a b = no_length (length ds) b
edits-append [] (t ∷ ts) ds vs' ts' ds' a b = no_length (length ts) a
edits-append (v ∷ vs) [] ds vs' ts' ds' a b = no_length (length vs) (sym a)
edits-append (v ∷ vs) (t ∷ ts) [] vs' ts' ds' a b = no_length (length vs) (sym b)
edits-append (v ∷ vs) (t ∷ ts) (d ∷ ds) vs' ts' ds' a b = ap (λ l. ((t, v), d) ∷ l) (edits-append vs ts ds vs' ts' ds' (less a) (less b))

pub edits_of_columns : (es : List Edit) → edits (map value_of es) (map time_of es) (map (λ (e : Edit). e.1) es) ≡ es
unfolding edits value_of time_of
edits_of_columns [] = refl
edits_of_columns (e ∷ es) = ap (λ l. e ∷ l) (edits_of_columns es)

-- ---- columns of any length
pub edits-length : (vs ts : List ℕ) (ds : List ℤ) → length (edits vs ts ds) ≤ length vs
unfolding edits
edits-length [] ts ds = omega arith
edits-length (v ∷ vs) [] ds = omega arith
edits-length (v ∷ vs) (t ∷ ts) [] = omega arith
edits-length (v ∷ vs) (t ∷ ts) (d ∷ ds) = let h : length (edits vs ts ds) ≤ length vs = edits-length vs ts ds in omega arith

edits_no_times : (vs : List ℕ) (ds : List ℤ) → edits vs [] ds ≡ []
unfolding edits
edits_no_times [] ds = refl
edits_no_times (v ∷ vs) ds = refl

edits_no_diffs : (vs ts : List ℕ) → edits vs ts [] ≡ []
unfolding edits
edits_no_diffs [] ts = refl
edits_no_diffs (v ∷ vs) [] = refl
edits_no_diffs (v ∷ vs) (t ∷ ts) = refl

pub take-edits : (n : ℕ) (vs ts : List ℕ) (ds : List ℤ) → take n (edits vs ts ds) ≡ edits (take n vs) (take n ts) (take n ds)
unfolding edits
take-edits zero vs ts ds = refl
take-edits (suc n) [] ts ds = refl
take-edits (suc n) (v ∷ vs) [] ds = refl
take-edits (suc n) (v ∷ vs) (t ∷ ts) [] = refl
take-edits (suc n) (v ∷ vs) (t ∷ ts) (d ∷ ds) = ap (λ l. ((t, v), d) ∷ l) (take-edits n vs ts ds)

pub drop-edits : (n : ℕ) (vs ts : List ℕ) (ds : List ℤ) → drop n (edits vs ts ds) ≡ edits (drop n vs) (drop n ts) (drop n ds)
unfolding edits
drop-edits zero vs ts ds = refl
drop-edits (suc n) [] ts ds = refl
drop-edits (suc n) (v ∷ vs) [] ds = sym (edits_no_times (drop n vs) (drop (suc n) ds))
drop-edits (suc n) (v ∷ vs) (t ∷ ts) [] = sym (edits_no_diffs (drop n vs) (drop n ts))
drop-edits (suc n) (v ∷ vs) (t ∷ ts) (d ∷ ds) = drop-edits n vs ts ds

pub part-edits : (f e : ℕ) (vs ts : List ℕ) (ds : List ℤ) → edits (part f e vs) (part f e ts) (part f e ds) ≡ part f e (edits vs ts ds)
part-edits f e vs ts ds = sym (take-edits (e - f) (drop f vs) (drop f ts) (drop f ds)) ∙ ap (take (e - f)) (sym (drop-edits f vs ts ds))

pub front_edits : (n : ℕ) (vs ts : List ℕ) (ds : List ℤ) → edits (take (n - 0) vs) (take (n - 0) ts) (take (n - 0) ds) ≡ take n (edits vs ts ds)
front_edits n vs ts ds = let z : n - 0 ≡ n = omega arith in part-edits 0 n vs ts ds ∙ ap (λ i. take i (edits vs ts ds)) z
