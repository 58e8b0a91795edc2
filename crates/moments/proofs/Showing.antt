-- Parts of three columns that lie apart.
--
-- seen-length: no more is seen than there are edits
-- apart_next, parts_next: what lies apart, its first part and the others. apart_past: it begins at or past any smaller place
-- laid-part: an orderly part is laid
use Prim.Native.Nat.{ℕ, ◌+◌, ◌-◌, ◌*◌, ◌<◌, ◌≤◌, ◌^◌}
use native.Mathlib.Omega.{arith}
use mathlib.Core.Path.{◌≡◌, sym, ◌∙◌, subst}
use mathlib.Core.List.{List, ◌∷◌}
use lib.Dec.{leb}
use lib.IntN.{ℤ, nat_abs}
use lib.ListN.{length, drop, get_or, length-map}
use Rattle.grid.specs.Lists.{keep}
use Rattle.grid.specs.Times.{below}
use Rattle.grid.proofs.Lists.{All, all_imp, all_map, keep_length}
use Rattle.grid.proofs.Loops.{drop_more}
use Rattle.grid.proofs.Sort.{Sorted}
use Rattle.grid.proofs.Sizes.{mass, mass_each}
use Rattle.rules.specs.Histories.{Edit, time_of, value_of}
use Rattle.rules.specs.Retire.{seen}
use Rattle.diffs.specs.Diffs.{modest}
use Rattle.backends.specs.Segments.{part}
use Rattle.backends.proofs.Segments.{part_length, consolidate_length}
use Rattle.moments.specs.Present.{edits, Laid}
use Rattle.moments.specs.Window.{parts_of, Apart, done, next, Orderly}
use Rattle.moments.proofs.Columns.{edits_values, edits-diffs, part-edits}
use Rattle.moments.proofs.Shown.{shown}

-- ---- a slot has no more sums than edits
pub seen-length : (t : ℕ) (es : List Edit) → length (seen t es) ≤ length es
unfolding seen shown
seen-length t es =
    let a : length (seen t es) ≤ length (shown t es) = consolidate_length (shown t es) in
    let b : length (shown t es) ≡ length (keep (λ e. below (time_of e) t) es) = length-map {B = ℕ × ℤ} (keep (λ e. below (time_of e) t) es) (λ (e : Edit). (value_of e, e.1)) in
    let c : length (keep (λ e. below (time_of e) t) es) ≤ length es = keep_length (λ e. below (time_of e) t) es in
    omega arith

-- ---- parts that lie apart
module _ {A : Type 0} {P : List A → Type 0} {l : List A} where
  pub apart_past : {k j : ℕ} {fs es : List ℕ} → j ≤ k → Apart P l k fs es → Apart P l j fs es
  apart_past h done = done
  apart_past {j = j} h (next {k} {f} a b c p r) = next {k = j} {f = f} (omega arith) b c p r

  apart_parts : {k f e : ℕ} {fs es : List ℕ} → Apart P l k (f ∷ fs) (e ∷ es) → (k ≤ f) × ((f ≤ e) × ((e ≤ length l) × (P (part f e l) × Apart P l e fs es)))
  apart_parts (next a b c p r) = (a, (b, (c, (p, r))))

  pub apart_next : {k : ℕ} (fs es : List ℕ) (b : ℕ) → b < length fs → b < length es → Apart P l k (drop b fs) (drop b es)
      → (k ≤ get_or fs b 0) × ((get_or fs b 0 ≤ get_or es b 0) × ((get_or es b 0 ≤ length l) × (P (part (get_or fs b 0) (get_or es b 0) l) × Apart P l (get_or es b 0) (drop (b + 1) fs) (drop (b + 1) es))))
  apart_next {k} fs es b h g c = apart_parts (subst (λ z. Apart P l k z (get_or es b 0 ∷ drop (b + 1) es)) (drop_more fs b 0 h) (subst (λ z. Apart P l k (drop b fs) z) (drop_more es b 0 g) c))

pub parts_next : {A : Type 0} (fs es : List ℕ) (l : List A) (b : ℕ) → b < length fs → b < length es
    → parts_of (drop b fs) (drop b es) l ≡ part (get_or fs b 0) (get_or es b 0) l ∷ parts_of (drop (b + 1) fs) (drop (b + 1) es) l
unfolding parts_of
parts_next fs es l b h g = λ z. parts_of (drop_more fs b 0 h z) (drop_more es b 0 g z) l

-- diffs that are together no larger than those of 8,192 records are modest
modest-edits : (es : List Edit) → mass nat_abs es ≤ 8192 * 2 ^ 31 → All (λ (y : Edit). modest y.1) es
modest-edits es l = all_imp (λ y g. omega arith) (mass_each nat_abs es)

-- an orderly part of three columns is laid
pub laid-part : (f e : ℕ) (vs ts : List ℕ) (ds : List ℤ) → length ts ≡ length vs → length ds ≡ length vs → length vs ≤ 8192 → f ≤ e → e ≤ length vs → Orderly 8192 (part f e (edits vs ts ds))
    → Laid (part f e vs) (part f e ts) (part f e ds)
laid-part f e vs ts ds a b s h k o =
    let p : length (part f e vs) ≡ e - f = part_length f e vs h k in
    let q : length (part f e ts) ≡ e - f = part_length f e ts h (omega arith) in
    let r : length (part f e ds) ≡ e - f = part_length f e ds h (omega arith) in
    let u : Orderly 8192 (edits (part f e vs) (part f e ts) (part f e ds)) = subst (Orderly 8192) (sym (part-edits f e vs ts ds)) o in
    record {
      same_t = q ∙ sym p;
      same_d = r ∙ sym p;
      short = omega arith;
      ascends = subst (Sorted leb) (edits_values (part f e vs) (part f e ts) (part f e ds) (q ∙ sym p) (r ∙ sym p)) u.ascends;
      small = subst (All modest) (edits-diffs (part f e vs) (part f e ts) (part f e ds) (q ∙ sym p) (r ∙ sym p)) (all_map {P = modest} (λ (y : Edit). y.1) (modest-edits (edits (part f e vs) (part f e ts) (part f e ds)) u.light));
    }
