-- Laws of columns, and the loop that appends to one.
--
-- less: two lengths are equal, where both lists have an element
-- length-entries, get_or-entries, values_entries, diffs_entries: of two columns of one length
-- Writing before at goal xs k rest: of `goal`, to be appended at `at`, `rest` is still to be written, from k on
-- writing_start, writing_more, writing_append, writing_is, writing_end: one entry written, many, none, all
-- column_put: a column that is written in one part
-- Filling, filling-*: the same of a column of values and one of diffs
use Prim.Native.Nat.{ℕ, zero, suc, ◌+◌, ◌<◌, ◌≤◌}
use native.Mathlib.Omega.{arith}
use mathlib.Core.Path.{◌≡◌, refl, sym, ◌∙◌, ap, subst}
use mathlib.Core.List.{List, [], ◌∷◌, ◌++◌, append-nil, append_assoc}
use lib.IntN.{ℤ, pos}
use lib.ListN.{length, take, drop, get_or, set, length-set, length-append}
use lib.Seq.{drop-drop}
use borrow.Rule.Slice.PartMut.{put_mid}
use Rattle.std.proofs.lemmas.Slice.{take-put_mid, drop-put_mid}
use Rattle.grid.proofs.Lists.{All, nil, cons}
use Rattle.grid.proofs.Loops.{put_more, ahead_set}
use Rattle.grid.proofs.Operations.{no_length}
use Rattle.rules.specs.Backends.{Sums}
use Rattle.backends.specs.Columns.{entries, values_of, diffs_of, Column, Appended}

pub less : {a b : ℕ} → suc a ≡ suc b → a ≡ b
less {a} {b} e = omega arith

pub length-entries : (vs : List ℕ) (ds : List ℤ) → length ds ≡ length vs → length (entries vs ds) ≡ length vs
unfolding entries
length-entries [] ds e = refl
length-entries (v ∷ vs) [] e = e
length-entries (v ∷ vs) (d ∷ ds) e = ap suc (length-entries vs ds (less e))

pub get_or-entries : (vs : List ℕ) (ds : List ℤ) (i : ℕ) → length ds ≡ length vs → get_or (entries vs ds) i (0, pos 0) ≡ (get_or vs i 0, get_or ds i (pos 0))
unfolding entries
get_or-entries [] [] i e = refl
get_or-entries [] (d ∷ ds) i e = no_length (length ds) e
get_or-entries (v ∷ vs) [] i e = no_length (length vs) (sym e)
get_or-entries (v ∷ vs) (d ∷ ds) zero e = refl
get_or-entries (v ∷ vs) (d ∷ ds) (suc i) e = get_or-entries vs ds i (less e)

pub values_entries : (vs : List ℕ) (ds : List ℤ) → length ds ≡ length vs → values_of (entries vs ds) ≡ vs
unfolding entries
values_entries [] ds e = refl
values_entries (v ∷ vs) [] e = no_length (length vs) (sym e)
values_entries (v ∷ vs) (d ∷ ds) e = ap (λ l. v ∷ l) (values_entries vs ds (less e))

pub diffs_entries : (vs : List ℕ) (ds : List ℤ) → length ds ≡ length vs → diffs_of (entries vs ds) ≡ ds
unfolding entries
diffs_entries [] [] e = refl
diffs_entries [] (d ∷ ds) e = no_length (length ds) e
diffs_entries (v ∷ vs) [] e = no_length (length vs) (sym e)
diffs_entries (v ∷ vs) (d ∷ ds) e = ap (λ l. d ∷ l) (diffs_entries vs ds (less e))

module _ {A : Type 0} {P : A → Type 0} where
  pub all_take : (n : ℕ) {l : List A} → All P l → All P (take n l)
  all_take zero a = nil
  all_take (suc n) nil = nil
  all_take (suc n) (cons p a) = cons p (all_take n a)

  pub all_drop : (n : ℕ) {l : List A} → All P l → All P (drop n l)
  all_drop zero a = a
  all_drop (suc n) nil = nil
  all_drop (suc n) (cons p a) = all_drop n a

-- ---- one column
pub record Writing {A : Type 0} (before : List A) (at : ℕ) (goal : List A) (xs : List A) (k : ℕ) (rest : List A) : Type 0 where
  pub same : length xs ≡ length before
  pub end : k + length rest ≡ at + length goal
  pub front : take k xs ++ rest ≡ take at before ++ goal
  pub past : drop k xs ≡ drop k before

pub writing_start : {A : Type 0} (xs : List A) (at : ℕ) (goal : List A) → Writing xs at goal xs at goal
writing_start xs at goal = record { same = refl; end = refl; front = refl; past = refl }

module _ {A : Type 0} {before : List A} {at : ℕ} {goal : List A} {xs : List A} {k : ℕ} {rest : List A} (w : Writing before at goal xs k rest) where
  pub writing_is : {rest' : List A} → rest ≡ rest' → Writing before at goal xs k rest'
  writing_is e = subst (λ (l : List A). Writing before at goal xs k l) e w

  pub writing_more : (x : A) {rest' : List A} → k < length xs → rest ≡ x ∷ rest' → Writing before at goal (set xs k x) (k + 1) rest'
  writing_more x {rest'} h e = record {
    same = simp length-set w.same;
    end = (let l : length rest ≡ suc (length rest') = ap length e in let c : k + length rest ≡ at + length goal = w.end in omega arith);
    front = put_more xs k x h w.front e;
    past = ahead_set xs before k k x (omega arith) w.past;
  }

  pub writing_append : {new xs' rest' : List A} {r : ℕ} → Column xs k new xs' r → length xs' ≡ length xs → rest ≡ new ++ rest' → Writing before at goal xs' r rest'
  writing_append {new} {xs'} {rest'} {r} c l e =
      let q : r ≡ k + length new = c.end in
      record {
        same = l ∙ w.same;
        end = (let z : length rest ≡ length new + length rest' = ap length e ∙ length-append new rest' in let g : k + length rest ≡ at + length goal = w.end in omega arith);
        front = ap (λ z. z ++ rest') c.front ∙ append_assoc (take k xs) new rest' ∙ ap (λ z. take k xs ++ z) (sym e) ∙ w.front;
        past = c.past ∙ ap (λ n. drop n xs) q ∙ sym (drop-drop (length new) k xs) ∙ ap (drop (length new)) w.past ∙ drop-drop (length new) k before ∙ ap (λ n. drop n before) (sym q);
      }

  pub writing_end : rest ≡ [] → Column before at goal xs k
  writing_end e = record {
    end = (let l : length rest ≡ 0 = ap length e in let c : k + length rest ≡ at + length goal = w.end in omega arith);
    front = sym (append-nil (take k xs)) ∙ ap (λ z. take k xs ++ z) (sym e) ∙ w.front;
    past = w.past;
  }

pub column_put : {A : Type 0} {before new held : List A} {at k r : ℕ} → held ≡ new → length new ≡ k → at + k ≤ length before → r ≡ at + k → Column before at new (put_mid at k before held) r
column_put {before = before} {new} {held} {at} {k} {r} e l h q =
    rw e
    (record {
      end = omega arith;
      front = take-put_mid at k before new r (omega arith) (omega arith);
      past = drop-put_mid at k before new r (omega arith) (omega arith) l;
    })

-- ---- a column of values and one of diffs
pub record Filling (vs₀ : List ℕ) (ds₀ : List ℤ) (at : ℕ) (goal : Sums) (vs : List ℕ) (ds : List ℤ) (k : ℕ) (rest : Sums) : Type 0 where
  pub values : Writing vs₀ at (values_of goal) vs k (values_of rest)
  pub diffs : Writing ds₀ at (diffs_of goal) ds k (diffs_of rest)

module _ {vs₀ : List ℕ} {ds₀ : List ℤ} {at : ℕ} {goal : Sums} {vs : List ℕ} {ds : List ℤ} {k : ℕ} {rest : Sums} (w : Filling vs₀ ds₀ at goal vs ds k rest) where
  pub filling_is : {rest' : Sums} → rest ≡ rest' → Filling vs₀ ds₀ at goal vs ds k rest'
  filling_is e = record { values = writing_is w.values (ap values_of e); diffs = writing_is w.diffs (ap diffs_of e) }

  pub filling_more : (v : ℕ) (d : ℤ) {rest' : Sums} → k < length vs → k < length ds → rest ≡ (v, d) ∷ rest' → Filling vs₀ ds₀ at goal (set vs k v) (set ds k d) (k + 1) rest'
  filling_more v d h h' e = record { values = writing_more w.values v h (ap values_of e); diffs = writing_more w.diffs d h' (ap diffs_of e) }

  pub filling_end : rest ≡ [] → Appended vs₀ ds₀ at goal vs ds k
  filling_end e = record { values = writing_end w.values (ap values_of e); diffs = writing_end w.diffs (ap diffs_of e) }
