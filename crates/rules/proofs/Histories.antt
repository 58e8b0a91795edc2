-- Load and advance change nothing that a time at or above the meet sees.
--
-- strict_earlier, strict_by_value: the orders of a history and of a buffer
-- visible t p: the entry of a time at or below t and of a value that passes p, so that `tally (visible t p) es` is what is seen of es at t
-- load_visible, advance_visible: load and advance keep that at times which the meet is under
-- Downward: what holds of a time holds of those at or below it. IfSeen t C: C holds of a time if t sees it
-- joined-seen, joined_back, advance_back: what holds of the seen ones of advanced times holds of the seen ones of the times
-- joined_unseen_all, advance_unseen: what is not seen is not seen after advancing
-- advanced_if: a history, its buffer advanced or not. buffer_back, buffer_unseen: the same of its buffer after a step
use Prim.Native.Nat.{ℕ}
use mathlib.Core.Bool.{Bool, true, false, cond, ◌&&◌}
use mathlib.Core.List.{List, [], ◌++◌, map}
use mathlib.Core.Option.{Option, none, some}
use mathlib.Core.Path.{◌≡◌, refl, ◌∙◌}
use lib.Dec.{eqb}
use Rattle.grid.specs.Lists.{front}
use Rattle.grid.specs.Times.{join, below, joined, puts}
use Rattle.grid.proofs.Lists.{All, nil, all_imp, map_all, all_map, puts_all, all_puts}
use Rattle.grid.proofs.Times.{Below, join-least}
use Rattle.grid.proofs.Meets.{Unseen, Under, join_upper_r, joined-below, joined_unseen}
use Rattle.grid.proofs.Sums.{sum-map, sum_ext}
use Rattle.grid.proofs.Consolidate.{Strict, strict_ltb, strict_lex, strict_by, tally, share, tally_consolidate}
use Rattle.rules.specs.Histories.{Edit, earlier, by_value, joined_edit, load_edits, TimeHistory, stepped, advance_times, advance_edits}

abbrev pub visible : ℕ → (ℕ → Bool) → ℕ × ℕ → Bool
visible t p k = below k.0 t && p k.1

pub strict_earlier : Strict earlier
strict_earlier = strict_lex strict_ltb strict_ltb

pub strict_by_value : Strict by_value
strict_by_value = strict_by (λ (k : ℕ × ℕ). (k.1, k.0)) (λ a b e. λ i. ((e i).1, (e i).0)) (strict_lex strict_ltb strict_ltb)

module _ (m : Option ℕ) (t : ℕ) (p : ℕ → Bool) (u : Under m t) where
  joined_visible : (es : List Edit) → tally (visible t p) (map (joined_edit m) es) ≡ tally (visible t p) es
  unfolding joined_edit
  joined_visible es = sum-map (share (visible t p)) (joined_edit m) es ∙ sum_ext _ _ (λ (e : Edit). rw (joined-below m e.0.0 t u)) es

  pub load_visible : (es : List Edit) → tally (visible t p) (load_edits m es) ≡ tally (visible t p) es
  unfolding load_edits
  load_visible es = tally_consolidate strict_earlier (visible t p) (map (joined_edit m) es) ∙ joined_visible es

pub advance_visible : (m : Option ℕ) (t : ℕ) (p : ℕ → Bool) → Under m t → (es : List Edit) → tally (visible t p) (advance_edits m es) ≡ tally (visible t p) es
unfolding advance_edits
advance_visible none t p u es = refl
advance_visible (some m) t p u es = tally_consolidate strict_by_value (visible t p) (map (joined_edit (some m)) es) ∙ joined_visible (some m) t p u es

-- ---- buffers of times
pub record Downward (C : ℕ → Type 0) : Type 0 where
  pub down : (s t : ℕ) → Below s t → C t → C s

abbrev pub IfSeen : ℕ → (ℕ → Type 0) → ℕ → Type 0
IfSeen t C x = Below x t → C x

module _ {C : ℕ → Type 0} (d : Downward C) (t : ℕ) where
  pub joined-seen : (m : Option ℕ) → Under m t → (x : ℕ) → IfSeen t C (joined m x) → IfSeen t C x
  unfolding joined
  joined-seen none u x f v = absurd u
  joined-seen (some m) u x f v = d.down x (join m x) (join_upper_r m x) (f (join-least m x t u v))

  pub joined_back : (m : Option ℕ) → Under m t → (ts : List ℕ) → All (IfSeen t C) (puts (map (joined m) ts) []) → All (IfSeen t C) ts
  joined_back m u ts h = all_imp (λ x f. joined-seen m u x f) (map_all (joined m) ts (puts_all (map (joined m) ts) [] h).0)

  pub advance_back : (m : Option ℕ) → Under m t → (ts : List ℕ) → All (IfSeen t C) (advance_times m ts) → All (IfSeen t C) ts
  unfolding advance_times joined
  advance_back none u ts h = absurd u
  advance_back (some m) u ts h = joined_back (some m) u ts h

pub joined_unseen_all : (m : Option ℕ) (t : ℕ) {ts : List ℕ} → All (Unseen t) ts → All (Unseen t) (puts (map (joined m) ts) [])
joined_unseen_all m t h = all_puts (all_map (joined m) (all_imp (λ x f. joined_unseen m x t f) h)) nil

pub advance_unseen : (m : Option ℕ) (t : ℕ) {ts : List ℕ} → All (Unseen t) ts → All (Unseen t) (advance_times m ts)
unfolding advance_times joined
advance_unseen none t h = h
advance_unseen (some m) t h = joined_unseen_all (some m) t h

-- ---- a history stepped at n, and advanced or not
abbrev pub advanced_if : Bool → Option ℕ → TimeHistory → TimeHistory
advanced_if c m h = cond c (record { ahead = h.ahead; buffer = advance_times m h.buffer }) h

module _ (t : ℕ) (m : Option ℕ) (n : ℕ) (h : TimeHistory) where
  pub buffer_back : {C : ℕ → Type 0} → Downward C → Under m t → (c : Bool) → All (IfSeen t C) (advanced_if c m (stepped (eqb n) h)).buffer → All (IfSeen t C) (h.buffer ++ front (eqb n) h.ahead)
  unfolding stepped
  buffer_back d u true k = advance_back d t m u (h.buffer ++ front (eqb n) h.ahead) k
  buffer_back d u false k = k

  pub buffer_unseen : (c : Bool) → All (Unseen t) (h.buffer ++ front (eqb n) h.ahead) → All (Unseen t) (advanced_if c m (stepped (eqb n) h)).buffer
  unfolding stepped
  buffer_unseen true k = advance_unseen m t k
  buffer_unseen false k = k
