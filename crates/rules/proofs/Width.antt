-- "Width changes no result but crossings", and "a window has at most as many as its longest list of moments".
--
-- at_width w q: the request q with the width w. Agree: two answers are equal but for the crossings
-- width_agrees: requests that differ in nothing but a width of 1 to 64 have such answers
-- windows_whole: the windows are the whole list
-- longest, rounds_longest: a window has as many rounds as its longest list has entries. window_bound: and at most as many crossings
-- sum_of, crossings-bound: crossings are at most the sum of these over the windows
-- settle-length, work_rounds: a key has a round for each moment
-- call-crossings: the crossings of a call are at most the sum over its windows of the longest list of moments
use Prim.Native.Nat.{ℕ, zero, suc, ◌+◌, ◌≤◌, max}
use mathlib.Core.Bool.{Bool}
use mathlib.Core.List.{List, [], ◌∷◌, ◌++◌, map, map-map}
use mathlib.Core.Path.{◌≡◌, refl, ◌∙◌, ap, ap₂}
use native.Mathlib.Omega.{arith}
use lib.Dec.{eqb}
use lib.ListN.{length, take, drop, length-append, length-map, length-drop, take-append-drop}
use borrow.Author.Tests.{eqb-true, eqb-false, le-leb}
use Rattle.grid.specs.Lists.{keep, flat}
use Rattle.grid.proofs.Tests.{by-test}
use Rattle.grid.proofs.Lists.{keep_length}
use Rattle.grid.specs.Records.{Row}
use Rattle.grid.proofs.Operations.{map-take, map-drop}
use Rattle.rules.proofs.Statuses.{call-worked, call-quiet, call-refused}
use Rattle.rules.specs.Histories.{Edit}
use Rattle.rules.specs.Tiles.{Tile, tiles}
use Rattle.rules.specs.Retire.{dated, round_at, settle, windows, either, rounds_of, crossings}
use Rattle.rules.specs.Call.{Request, Answer, Done, check11, check12, check13, check14, check15, check16, is_held, check17, quiet, unchanged, verdict, together, changed, work, work_all, fixes_of, fixes_all, crossed_of, too_many, too_large, refused, worked, quiet_answer, call}

abbrev pub at_width : ℕ → Request → Request
at_width w q = record {
  mode = q.mode;
  width = w;
  lower = q.lower;
  upper = q.upper;
  held = q.held;
  old = q.old;
  new = q.new;
  out = q.out;
  pending = q.pending;
}

pub record Agree (a b : Answer) : Type 0 where
  pub status_same : a.status ≡ b.status
  pub tiles-same : a.tiles ≡ b.tiles
  pub fixes-same : a.fixes ≡ b.fixes
  pub pending_same : a.pending ≡ b.pending
  pub frontier_same : a.frontier ≡ b.frontier

agree_same : (a : Answer) → Agree a a
agree_same a = record { status_same = refl; tiles-same = refl; fixes-same = refl; pending_same = refl; frontier_same = refl }

module _ (q : Request) (w : ℕ) where
  verdict_width : 1 ≤ q.width → q.width ≤ 64 → 1 ≤ w → w ≤ 64 → verdict (at_width w q) ≡ verdict q
  unfolding verdict check11 check12 check13 check14 check15 check16 is_held check17 quiet unchanged
  verdict_width a b c d = rw (le-leb 1 q.width a, le-leb q.width 64 b, le-leb 1 w c, le-leb w 64 d)

  work_all_width : work_all (at_width w q) ≡ work_all q
  unfolding work_all work changed
  work_all_width = refl

  fixes_all_width : (ts : List Tile) (ds : List Done) → fixes_all (at_width w q) ts ds ≡ fixes_all q ts ds
  unfolding fixes_all fixes_of
  fixes_all_width ts ds = refl

  worked_width : Agree (worked (at_width w q)) (worked q)
  unfolding worked
  worked_width =
      rw (work_all_width, fixes_all_width)
      (by-test (too_many (work_all q)) (λ e. rw e (agree_same (refused 18)))
      (λ e. rw e (by-test (too_large (fixes_all q (tiles q.lower q.upper q.held) (work_all q))) (λ l. rw l (agree_same (refused 19)))
      (λ l. rw l (record { status_same = refl; tiles-same = refl; fixes-same = refl; pending_same = refl; frontier_same = refl })))))

  -- Check 11 gives these bounds; a width outside them is refused.
  pub width_agrees : 1 ≤ q.width → q.width ≤ 64 → 1 ≤ w → w ≤ 64 → Agree (call (at_width w q)) (call q)
  unfolding call quiet_answer
  width_agrees a b c d =
      rw (verdict_width a b c d)
      (by-test (eqb (verdict q) 0) (λ e. rw e worked_width)
      (λ e. rw e (by-test (eqb (verdict q) 1) (λ k. rw k (agree_same (quiet_answer q))) (λ k. rw k (agree_same (refused (verdict q)))))))

-- ---- windows
-- the windows are the whole list, cut into parts of at most the width
module _ {A : Type 0} (width : ℕ) where
  pub windows_whole : 1 ≤ width → (n : ℕ) (xs : List A) → length xs ≤ n → flat (λ w. w) (windows n width xs) ≡ xs
  windows_whole h zero [] k = refl
  windows_whole h zero (x ∷ xs) k = absurd (omega arith)
  windows_whole h (suc n) [] k = refl
  windows_whole h (suc n) (x ∷ xs) k =
      ap (λ r. take width (x ∷ xs) ++ r) (windows_whole h n (drop width (x ∷ xs)) (rw (length-drop width (x ∷ xs)) (omega arith))) ∙ take-append-drop width (x ∷ xs)

-- ---- crossings
-- the length of the longest list
abbrev pub longest : {A : Type 0} → List (List A) → ℕ
longest [] = 0
longest (k ∷ ks) = max (length k) (longest ks)

-- the sum over a list
abbrev pub sum_of : {A : Type 0} → (A → ℕ) → List A → ℕ
sum_of f [] = 0
sum_of f (x ∷ xs) = f x + sum_of f xs

either-length : (as' bs : List Bool) → length (either as' bs) ≡ max (length as') (length bs)
either-length [] bs = omega arith
either-length (a ∷ as') [] = omega arith
either-length (a ∷ as') (b ∷ bs) = omega (arith, either-length as' bs)

pub rounds_longest : (w : List (List Bool)) → length (rounds_of w) ≡ longest w
rounds_longest [] = refl
rounds_longest (k ∷ ks) = either-length k (rounds_of ks) ∙ ap (max (length k)) (rounds_longest ks)

flat-bound : {A B : Type 0} (f : A → List B) (g : A → ℕ) → ((x : A) → length (f x) ≤ g x) → (xs : List A) → length (flat f xs) ≤ sum_of g xs
flat-bound f g h [] = omega arith
flat-bound f g h (x ∷ xs) = rw (length-append (f x) (flat f xs)) (omega (arith, h x, flat-bound f g h xs))

-- a window has at most as many crossings
pub window_bound : (w : List (List Bool)) → length (keep (λ b. b) (rounds_of w)) ≤ longest w
window_bound w = rw (← rounds_longest w) (keep_length (λ b. b) (rounds_of w))

pub crossings-bound : (width : ℕ) (keys : List (List Bool)) → crossings width keys ≤ sum_of longest (windows (length keys) width keys)
unfolding crossings
crossings-bound width keys =
    flat-bound (λ w. keep (λ b. b) (rounds_of w)) longest window_bound (windows (length keys) width keys)

-- ---- and moments
pub settle-length : (mode : ℕ) (input output : List Edit) (ts : List ℕ) → length (settle mode input output ts) ≡ length ts
unfolding settle
settle-length mode input output [] = refl
settle-length mode input output (t ∷ ts) = ap suc (settle-length mode input (output ++ dated t (round_at mode input output t).fixes) ts)

-- lists of the same lengths
module _ {A B C : Type 0} (f : A → List B) (g : A → List C) (same : (x : A) → length (f x) ≡ length (g x)) where
  longest_same : (xs : List A) → longest (map f xs) ≡ longest (map g xs)
  longest_same [] = refl
  longest_same (x ∷ xs) = ap₂ max (same x) (longest_same xs)

  windows-same : (n width : ℕ) (xs : List A) → sum_of longest (windows n width (map f xs)) ≡ sum_of longest (windows n width (map g xs))
  windows-same zero width xs = refl
  windows-same (suc n) width [] = refl
  windows-same (suc n) width (x ∷ xs) =
      rw (← map-take f width (x ∷ xs), ← map-drop f width (x ∷ xs), ← map-take g width (x ∷ xs), ← map-drop g width (x ∷ xs))
      (ap₂ ◌+◌ (longest_same (take width (x ∷ xs))) (windows-same n width (drop width (x ∷ xs))))

module _ (q : Request) where
  -- a key has a round for each moment
  pub work_rounds : (input : List Row) (k : ℕ) → length (work q input k).rounds ≡ length (work q input k).found.moments
  unfolding work
  work_rounds input k = settle-length _ _ _ _

  crossed_length : (input : List Row) (k : ℕ) → length (crossed_of (work q input k)) ≡ length (work q input k).found.moments
  unfolding crossed_of
  crossed_length input k = length-map (work q input k).rounds _ ∙ work_rounds input k

  crossed-windows :
      (n : ℕ) → sum_of longest (windows n q.width (map crossed_of (work_all q))) ≡ sum_of longest (windows n q.width (map (λ (d : Done). d.found.moments) (work_all q)))
  unfolding work_all
  crossed-windows n =
      let input = together q.old q.new in
      rw (map-map crossed_of (work q input) (changed q), map-map (λ (d : Done). d.found.moments) (work q input) (changed q))
      (windows-same (λ k. crossed_of (work q input k)) (λ k. (work q input k).found.moments) (crossed_length input) n q.width (changed q))

  -- whatever the status: only a worked call has crossings
  pub call-crossings : (call q).crossings ≤ sum_of longest (windows (length (work_all q)) q.width (map (λ (d : Done). d.found.moments) (work_all q)))
  unfolding quiet_answer refused
  call-crossings =
      by-test (eqb (call q).status 0)
      (λ e. rw ((call-worked q (eqb-true _ _ e)).crossings_are, ← crossed-windows (length (work_all q)), ← length-map (work_all q) crossed_of) (crossings-bound q.width (map crossed_of (work_all q))))
      (λ e. by-test (eqb (call q).status 1)
      (λ k. omega (arith, ap (λ (a : Answer). a.crossings) (call-quiet q (eqb-true _ _ k))))
      (λ k. omega (arith, ap (λ (a : Answer). a.crossings) (call-refused q (omega (arith, eqb-false (call q).status 0 e, eqb-false (call q).status 1 k))))))
