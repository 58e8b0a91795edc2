-- The parts that a window's searches find are those of its keys, and so is what its discovery finds from them.
--
-- searched_parted: the columns of a search tell parts within the run. searched_spans: these parts
-- reaches_past: later keys are found from where the search has ended
-- window_found: so it is from the columns that the searches wrote
-- found_keys: what is found from the parts is what is found of each key
-- pended_work: the pended times, each with its key, are those of the call's work
-- window_moments: the moments of each key, by the ends of their segments
use Prim.Native.Nat.{ℕ, suc, ◌+◌, ◌-◌, ◌≤◌}
use native.Mathlib.Omega.{arith}
use mathlib.Core.Bool.{true, false}
use mathlib.Core.List.{List, [], ◌∷◌, ◌++◌, append_assoc, map}
use mathlib.Core.Path.{◌≡◌, refl, sym, ◌∙◌, ap}
use lib.Dec.{ltb}
use lib.IntN.{ℤ}
use lib.ListN.{length, take, drop, length-map, take-append-drop}
use lib.Seq.{drop-drop, take-append_seam, drop-append_seam}
use borrow.Author.Tests.{ltb-true}
use Rattle.grid.specs.Lists.{ascending}
use Rattle.grid.specs.Records.{Row, rows, pairs}
use Rattle.grid.proofs.Lists.{All, nil, cons, head, all_imp}
use Rattle.grid.proofs.Consolidate.{strict_ltb}
use Rattle.grid.proofs.Ascending.{ascending_above, ascending_rest}
use Rattle.grid.proofs.Slices.{laid_front}
use Rattle.rules.specs.Discover.{State, discover}
use Rattle.rules.specs.Call.{Request, work, pended_all}
use Rattle.backends.specs.Segments.{part, segments, ends, whole}
use Rattle.keys.specs.Spans.{Reaches, Spans, Within, Level}
use Rattle.keys.specs.declared.Span.{Span}
use Rattle.keys.proofs.Spans.{spans_within, reaches_on, pending_part, edits-part}
use Rattle.searches.specs.Searched.{from_at, span_at, spans_from, end_from, SearchRoom, Searched}
use Rattle.finding.specs.Windowed.{state_at, spans_in, fourfold, moments_of, pended_row, Parted, FindsWindow}
use Rattle.finding.specs.Keyed.{found_at}
use Rattle.tallies.specs.declared.Tally.{Tally}

spans_at : (run : List ℕ) (start k : ℕ) → Spans run start k (span_at run start k)
unfolding span_at from_at
spans_at run start k = record { from_is = refl; to_is = refl }

-- ---- one run
-- keys that ascend, all to be found from `start` on: the others are found from the end of the first one's part on
module _ {run : List ℕ} {start k : ℕ} {ks : List ℕ} (a : ascending ltb (k ∷ ks) ≡ true) (r : All (Reaches run start) (k ∷ ks)) where
  reaches_rest : All (Reaches run (span_at run start k).to) ks
  reaches_rest = all_imp (λ j h. reaches_on (head r) (spans_at run start k) j (ltb-true k j h)) (ascending_above ltb strict_ltb k ks a)

spans_inside : {run : List ℕ} {start : ℕ} (ks : List ℕ) → ascending ltb ks ≡ true → All (Reaches run start) ks → All (Within (length run)) (spans_from run start ks)
unfolding spans_from
spans_inside [] a r = nil
spans_inside {run} {start} (k ∷ ks) a r =
    cons (spans_within (head r) (spans_at run start k)) (spans_inside {start = (span_at run start k).to} ks (ascending_rest ltb k ks a) (reaches_rest a r))

pub reaches_past : {run : List ℕ} {start : ℕ} (ks later : List ℕ) → ascending ltb (ks ++ later) ≡ true → All (Reaches run start) (ks ++ later) → All (Reaches run (end_from run start ks)) later
unfolding end_from
reaches_past [] later a r = r
reaches_past {run} {start} (k ∷ ks) later a r = reaches_past {start = (span_at run start k).to} ks later (ascending_rest ltb k (ks ++ later) a) (reaches_rest a r)

length_spans : (run : List ℕ) (start : ℕ) (ks : List ℕ) → length (spans_from run start ks) ≡ length ks
unfolding spans_from
length_spans run start [] = refl
length_spans run start (k ∷ ks) = ap suc (length_spans run (span_at run start k).to ks)

spans_columns : (ss : List Span) → spans_in (map (λ (s : Span). s.from) ss) (map (λ (s : Span). s.to) ss) ≡ ss
unfolding spans_in
spans_columns [] = refl
spans_columns (s ∷ ss) = ap (λ l. s ∷ l) (spans_columns ss)

module _ {run : List ℕ} {start : ℕ} {keys from to from' to' : List ℕ} {r : ℕ} (room : SearchRoom (length keys) from to) (S : Searched run start keys from to from' to' r) where
  froms_are : take (length keys) from' ≡ map (λ (s : Span). s.from) (spans_from run start keys)
  froms_are = laid_front S.from_are (omega (arith, S.from_are.counted, room.from_room))

  tos_are : take (length keys) to' ≡ map (λ (s : Span). s.to) (spans_from run start keys)
  tos_are = laid_front S.to_are (omega (arith, S.to_are.counted, room.to_room))

  pub searched_spans : spans_in (take (length keys) from') (take (length keys) to') ≡ spans_from run start keys
  searched_spans = (λ i. spans_in (froms_are i) (tos_are i)) ∙ spans_columns (spans_from run start keys)

  pub searched_parted : {long : ℕ} → ascending ltb keys ≡ true → All (Reaches run start) keys → long ≡ length run → Parted (length keys) long (take (length keys) from') (take (length keys) to')
  searched_parted a h e =
      record {
        from_long = ap length froms_are ∙ length-map (spans_from run start keys) (λ (s : Span). s.from) ∙ length_spans run start keys;
        to_long = ap length tos_are ∙ length-map (spans_from run start keys) (λ (s : Span). s.to) ∙ length_spans run start keys;
        inside = rw (searched_spans, e) (spans_inside keys a h);
      }

-- ---- what is found
module _ (upper nk nt pk pt : List ℕ) {ik iv it : List ℕ} {id : List ℤ} (ok ot : List ℕ) (ln : length nt ≡ length nk) (lp : length pt ≡ length pk) (li : Level ik iv it id) (lo : length ot ≡ length ok) where
  abbrev found : ℕ → State
  found k = found_at upper (pairs nk nt) (pairs pk pt) (rows ik iv it id) (pairs ok ot) k

  found_key : (k : ℕ) {n p i o : Span} {sn sp si so : ℕ} → Reaches nk sn k → Spans nk sn k n → Reaches pk sp k → Spans pk sp k p → Reaches ik si k → Spans ik si k i → Reaches ok so k → Spans ok so k o
      → state_at upper nt pt it iv id ot n p i o ≡ found k
  unfolding state_at found_at
  found_key k rn en rp ep ri ei ro eo =
      let a = pending_part nk nt ln rn en in
      let b = pending_part pk pt lp rp ep in
      let c = edits-part li ri ei in
      let d = pending_part ok ot lo ro eo in
      λ z. discover upper (a z) (b z) (c z) (d z)

  pub found_keys : {sn sp si so : ℕ} (ks : List ℕ) → ascending ltb ks ≡ true → All (Reaches nk sn) ks → All (Reaches pk sp) ks → All (Reaches ik si) ks → All (Reaches ok so) ks
      → fourfold (state_at upper nt pt it iv id ot) (spans_from nk sn ks) (spans_from pk sp ks) (spans_from ik si ks) (spans_from ok so ks) ≡ map found ks
  unfolding spans_from fourfold
  found_keys [] a rn rp ri ro = refl
  found_keys {sn} {sp} {si} {so} (k ∷ ks) a rn rp ri ro =
      let e = found_key k (head rn) (spans_at nk sn k) (head rp) (spans_at pk sp k) (head ri) (spans_at ik si k) (head ro) (spans_at ok so k) in
      let ih = found_keys {sn = (span_at nk sn k).to} {sp = (span_at pk sp k).to} {si = (span_at ik si k).to} {so = (span_at ok so k).to} ks (ascending_rest ltb k ks a) (reaches_rest a rn) (reaches_rest a rp) (reaches_rest a ri) (reaches_rest a ro) in
      λ z. e z ∷ ih z

  -- from the columns that the searches wrote
  pub window_found : {sn sp si so : ℕ} {keys nf₀ nto₀ nf nto pf₀ pto₀ pf pto if₀ ito₀ if' ito of₀ oto₀ of oto : List ℕ} {rn rp ri ro : ℕ} → ascending ltb keys ≡ true
      → All (Reaches nk sn) keys → All (Reaches pk sp) keys → All (Reaches ik si) keys → All (Reaches ok so) keys
      → SearchRoom (length keys) nf₀ nto₀ → Searched nk sn keys nf₀ nto₀ nf nto rn → SearchRoom (length keys) pf₀ pto₀ → Searched pk sp keys pf₀ pto₀ pf pto rp
      → SearchRoom (length keys) if₀ ito₀ → Searched ik si keys if₀ ito₀ if' ito ri → SearchRoom (length keys) of₀ oto₀ → Searched ok so keys of₀ oto₀ of oto ro
      → fourfold (state_at upper nt pt it iv id ot) (spans_in (take (length keys) nf) (take (length keys) nto)) (spans_in (take (length keys) pf) (take (length keys) pto))
      (spans_in (take (length keys) if') (take (length keys) ito)) (spans_in (take (length keys) of) (take (length keys) oto)) ≡ map found keys
  window_found {keys = keys} a rn rp ri ro mn n mp p mi i mo o =
      (λ z. fourfold (state_at upper nt pt it iv id ot) (searched_spans mn n z) (searched_spans mp p z) (searched_spans mi i z) (searched_spans mo o z)) ∙ found_keys keys a rn rp ri ro

pub pended_work : (q : Request) (input : List Row) (ks : List ℕ) → pended_row ks (map (λ k. (work q input k).found) ks) ≡ pended_all (map (work q input) ks)
unfolding pended_row pended_all work
pended_work q input [] = refl
pended_work q input (k ∷ ks) = ap (λ l. map (λ t. (k, t)) (work q input k).found.pended ++ l) (pended_work q input ks)

-- ---- the moments of each key
segments_row : {A : Type 0} (k : ℕ) (ss : List (List A)) (l rest : List A) → drop k l ≡ whole ss ++ rest → segments k (ends k ss) l ≡ ss
unfolding segments ends
segments_row k [] l rest e = refl
segments_row k (s ∷ ss) l rest e =
    let here : drop k l ≡ s ++ (whole ss ++ rest) = e ∙ append_assoc s (whole ss) rest in
    let n : (k + length s) - k ≡ length s = omega arith in
    let first : part k (k + length s) l ≡ s = ap (λ i. take i (drop k l)) n ∙ ap (take (length s)) here ∙ take-append_seam s (whole ss ++ rest) in
    let others = segments_row (k + length s) ss l rest (sym (drop-drop (length s) k l) ∙ ap (drop (length s)) here ∙ drop-append_seam s (whole ss ++ rest)) in
    λ i. first i ∷ others i

pub window_moments : {most : ℕ} {keys : List ℕ} {Ds : List State} {p : Tally} {mends nextkeys nexttimes moments' mends' nextkeys' nexttimes' : List ℕ} {r : Tally} → FindsWindow most keys Ds p mends nextkeys nexttimes moments' mends' nextkeys' nexttimes' r
    → length keys ≤ length mends → r.over ≡ false → segments 0 (take (length keys) mends') moments' ≡ moments_of Ds
window_moments {Ds = Ds} {moments' = moments'} {r = r} F room o =
    let f = laid_front (F.ends_are o) (omega (arith, (F.ends_are o).counted)) in
    ap (λ es. segments 0 es moments') f
    ∙ segments_row 0 (moments_of Ds) moments' (drop r.moments moments') (sym (take-append-drop r.moments moments') ∙ ap (λ l. l ++ drop r.moments moments') (F.row_is o))
