-- What a call's columns tell is what the rules say of the request whose columns they are.
--
-- asked_found, asked_slots: what is found of a key, and the slots of a window
-- row_count: how many pended times keys have. asked_pended: those of all keys. asked-passed: whether a limit is passed
use Prim.Native.Nat.{ℕ, ◌+◌}
use native.Mathlib.Omega.{arith}
use mathlib.Core.Bool.{false, ◌||◌}
use mathlib.Core.List.{List, [], ◌∷◌, map}
use mathlib.Core.Path.{◌≡◌, refl, sym, ◌∙◌, ap}
use lib.Dec.{ltb}
use lib.ListN.{length, length-append, length-map}
use Rattle.grid.specs.Lists.{any, flat}
use Rattle.grid.specs.Records.{Row}
use Rattle.rules.specs.Discover.{State, discover}
use Rattle.rules.specs.Call.{Request, Done, together, changed, edits_of, times_of, pending_of, work, work_all, pended_all}
use Rattle.rules.specs.Runs.{work_of}
use Rattle.keys.proofs.Spans.{times_of_lem}
use Rattle.finding.specs.Keyed.{found_at}
use Rattle.finding.specs.Windowed.{pended_row, window_over}
use Rattle.finding.proofs.Keyed.{pended_work}
use Rattle.settled.specs.Call.{slot_of}
use Rattle.turns.specs.Runs.{Runs, found_of, slot_at, Good, Asked}
use Rattle.looping.specs.Looped.{passed}

pub row_count : (f : ℕ → State) (ks : List ℕ) → length (pended_row ks (map f ks)) ≡ length (flat (λ (D : State). D.pended) (map f ks))
unfolding pended_row
row_count f [] = refl
row_count f (k ∷ ks) =
    let own : ℕ → ℕ × ℕ = (λ t. (k, t)) in
    let a = length-append (map own (f k).pended) (pended_row ks (map f ks)) in
    let b = length-append (f k).pended (flat (λ (D : State). D.pended) (map f ks)) in
    omega (arith, a, b, length-map (f k).pended own, row_count f ks)

module _ {most : ℕ} {q : Request} {mode width : ℕ} {R : Runs} {keys : List ℕ} (g : Good most R) (a : Asked q mode width R keys) where
  abbrev input : List Row
  input = together q.old q.new

  asked_found : (k : ℕ) → (work q (together q.old q.new) k).found ≡ found_of R k
  unfolding work found_at
  asked_found k =
      let u = a.upper_is in
      let n = a.new_is k in
      let p = a.pending_is in
      let t = a.input_is in
      let o = ap (times_of k) a.out_is ∙ times_of_lem g.out_level k in
      λ i. discover (u i) (n i) (pending_of k (p i)) (edits_of k (t i)) (o i)

  asked_slot : (k : ℕ) → slot_of q k ≡ slot_at R k
  unfolding slot_of slot_at work_of
  asked_slot k =
      let t = a.input_is in
      let o = a.out_is in
      let f = asked_found k in
      λ i. record { key = k; input = edits_of k (t i); output = edits_of k (o i); moments = (f i).moments }

  pub asked_slots : (ks : List ℕ) → map (slot_of q) ks ≡ map (slot_at R) ks
  asked_slots ks = λ i. map (λ k. asked_slot k i) ks

  pub asked_pended : pended_all (work_all q) ≡ pended_row keys (map (found_of R) keys)
  unfolding work_all
  asked_pended =
      let e = a.keys_are in
      sym (pended_work q input (changed q)) ∙ (λ i. pended_row (e i) (map (λ k. asked_found k i) (e i)))

  over_each : (ks : List ℕ) → any (λ (d : Done). d.found.over) (map (work q input) ks) ≡ any (λ (D : State). D.over) (map (found_of R) ks)
  over_each [] = refl
  over_each (k ∷ ks) =
      let f = asked_found k in
      let r = over_each ks in
      λ i. (f i).over || r i

  over_all : any (λ (d : Done). d.found.over) (work_all q) ≡ any (λ (D : State). D.over) (map (found_of R) keys)
  unfolding work_all
  over_all = over_each (changed q) ∙ ap (λ ks. any (λ (D : State). D.over) (map (found_of R) ks)) a.keys_are

  pub asked-passed : passed most q ≡ window_over most false 0 (map (found_of R) keys)
  unfolding passed window_over
  asked-passed =
      let o = over_all in
      let n : length (pended_all (work_all q)) ≡ 0 + length (flat (λ (D : State). D.pended) (map (found_of R) keys)) = omega (arith, ap length asked_pended, row_count (found_of R) keys) in
      λ i. o i || ltb most (n i)
