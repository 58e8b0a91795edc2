-- A window's search and discovery, one after the other.
--
-- tally_of: what is counted before the discovery
-- own_room, in_room, out_room: the columns have room for the window's keys. window_lent, runs-lent: what the discovery asks of its memory, and of the runs
-- found_few: what is found of a key without a limit passed has few moments. each_few: so it is for all keys of a window
-- cut_ends: lists laid in a row are segments, by their ends. window_cut: so the moments of each key are a segment within the limit
-- window_parted: the searches tell parts of the runs. sought: what search and discovery leave
use Prim.Native.Nat.{ℕ, suc, ◌+◌, ◌-◌, ◌≤◌}
use native.Mathlib.Omega.{arith}
use mathlib.Core.Bool.{Bool, false}
use mathlib.Core.List.{List, [], ◌∷◌, ◌++◌, map, map-map, append_assoc}
use mathlib.Core.Path.{◌≡◌, refl, sym, ◌∙◌, ap, subst}
use lib.IntN.{ℤ}
use lib.ListN.{length, take, drop, length-append, length-drop, take-append-drop}
use lib.Seq.{drop-drop, take-append_seam, drop-append_seam}
use Rattle.grid.specs.Lists.{any}
use Rattle.grid.specs.Records.{Row}
use Rattle.grid.proofs.Tests.{or_false_l, or_false_r}
use Rattle.grid.proofs.Lists.{All, head, tail, all_imp, all_map, map_all, none_all}
use Rattle.grid.proofs.Slices.{laid_front}
use Rattle.rules.specs.Discover.{most_moments, State, start, discover}
use Rattle.rules.specs.Call.{edits_of, pending_of}
use Rattle.rules.proofs.Order.{run-keeps}
use Rattle.rules.proofs.Fuel.{Bounded, step_bounded, start_bounded}
use Rattle.backends.specs.Segments.{part, ends, whole, Cut, done, next}
use Rattle.searches.specs.Searched.{SearchRoom, Searched}
use Rattle.finding.specs.Windowed.{state_at, LentRuns, LentWindow, Parted, spans_in, fourfold, moments_of, window_over, FindsWindow}
use Rattle.finding.specs.Keyed.{found_at}
use Rattle.tallies.specs.declared.Tally.{Tally}
use Rattle.finding.proofs.Keyed.{searched_spans, searched_parted, window_found, window_moments}
use Rattle.seeking.specs.Sought.{found_in, Seeks, Reached, LentSeek, Sought}
use Rattle.progress.specs.declared.Progress.{Progress}

-- what is counted before the discovery
abbrev pub tally_of : Progress → Tally
tally_of p = record { moments = 0; pended = p.pended; over = p.over }

-- ---- what the search and the discovery ask
module _ {most : ℕ} {keys moments nextkeys nexttimes mends ifrom ito ofrom oto : List ℕ} {p : Progress} (L : LentSeek most keys moments nextkeys nexttimes mends ifrom ito ofrom oto p) where
  pub own_room : (from to : List ℕ) → length from ≡ 64 → length to ≡ 64 → SearchRoom (length keys) from to
  own_room from to f t = record { from_room = omega (arith, L.keys_few); to_room = omega (arith, L.keys_few) }

  pub in_room : SearchRoom (length keys) ifrom ito
  in_room = record { from_room = omega (arith, L.keys_few, L.ifrom_room); to_room = omega (arith, L.keys_few, L.ito_room) }

  pub out_room : SearchRoom (length keys) ofrom oto
  out_room = record { from_room = omega (arith, L.keys_few, L.ofrom_room); to_room = omega (arith, L.keys_few, L.oto_room) }

  pub window_lent : LentWindow most keys moments mends nextkeys nexttimes (tally_of p)
  window_lent = record { keys_few = L.keys_few; none_yet = refl; moments_room = L.moments_room; mends_room = omega (arith, L.keys_few, L.mends_room); next_room = L.next_room }

pub runs-lent : {most : ℕ} {nk nt pk pt ik iv it : List ℕ} {id : List ℤ} {ok ot : List ℕ} → Seeks most nk nt pk pt ik iv it id ok ot → LentRuns most nt pt it iv id ot
runs-lent s =
    record {
      new_few = omega (arith, s.new_level, s.new_few);
      pending_few = omega (arith, s.pending_level, s.pending_few);
      input_few = omega (arith, s.in_level.times_long, s.in_few);
      input_alike = record { values = s.in_level.values_long ∙ sym s.in_level.times_long; diffs = s.in_level.diffs_long ∙ sym s.in_level.times_long };
      input_light = s.in_light;
      out_few = omega (arith, s.out_level, s.out_few);
    }

-- ---- the limit of moments
pub found_few : (upper : List ℕ) (new pending : List (ℕ × ℕ)) (input : List Row) (out : List (ℕ × ℕ)) (k : ℕ) → (found_at upper new pending input out k).over ≡ false → length (found_at upper new pending input out k).moments ≤ most_moments
unfolding found_at discover
found_few upper new pending input out k =
    (run-keeps (Bounded upper) upper (λ s n e h. step_bounded upper n s h)
    (length (pending_of k new) + length (pending_of k pending) + length (edits_of k input) + length (pending_of k out) + suc most_moments)
    (start (pending_of k new) (pending_of k pending) (edits_of k input) (pending_of k out))
    (start_bounded upper (pending_of k new) (pending_of k pending) (edits_of k input) (pending_of k out))
    ).few

pub each_few : (most : ℕ) (found : ℕ → State) → ((k : ℕ) → (found k).over ≡ false → length (found k).moments ≤ most_moments) → (over : Bool) (n : ℕ) (keys : List ℕ) → window_over most over n (map found keys) ≡ false
    → All (λ m. length m ≤ most_moments) (moments_of (map found keys))
unfolding window_over
each_few most found few over n keys e =
    let none : any (λ (D : State). D.over) (map found keys) ≡ false = or_false_l (any (λ (D : State). D.over) (map found keys)) _ (or_false_r over _ e) in
    all_map (λ (D : State). D.moments) (all_map found (all_imp few (map_all found keys (none_all (λ (D : State). D.over) (map found keys) none))))

module _ {A : Type 0} where
  first_part : (k : ℕ) (s l rest : List A) → drop k l ≡ s ++ rest → part k (k + length s) l ≡ s
  first_part k s l rest e =
      let n : k + length s - k ≡ length s = omega arith in
      ap (λ m. take m (drop k l)) n ∙ ap (take (length s)) e ∙ take-append_seam s rest

  next-drop : (k : ℕ) (s l rest : List A) → drop k l ≡ s ++ rest → drop (k + length s) l ≡ rest
  next-drop k s l rest e = sym (drop-drop (length s) k l) ∙ ap (drop (length s)) e ∙ drop-append_seam s rest

  cut_ends : {P : List A → Type 0} (k : ℕ) (ss : List (List A)) (l rest : List A) → All P ss → k ≤ length l → drop k l ≡ whole ss ++ rest → Cut P l k (ends k ss)
  unfolding ends
  cut_ends k [] l rest a h e = done
  cut_ends {P} k (s ∷ ss) l rest a h e =
      let q : drop k l ≡ s ++ (whole ss ++ rest) = e ∙ append_assoc s (whole ss) rest in
      let n : length l - k ≡ length s + length (whole ss ++ rest) = sym (length-drop k l) ∙ ap length q ∙ length-append s (whole ss ++ rest) in
      let m : k + length s ≤ length l = omega arith in
      next {f = k} {e = k + length s} (omega arith) m (subst P (sym (first_part k s l (whole ss ++ rest) q)) (head a)) (cut_ends (k + length s) ss l rest (tail a) m (next-drop k s l (whole ss ++ rest) q))

window_cut : {most : ℕ} {keys : List ℕ} {Ds : List State} {p : Tally} {mends nextkeys nexttimes moments' mends' nextkeys' nexttimes' : List ℕ} {r : Tally} → FindsWindow most keys Ds p mends nextkeys nexttimes moments' mends' nextkeys' nexttimes' r
    → length keys ≤ length mends → r.over ≡ false → All (λ m. length m ≤ most_moments) (moments_of Ds) → Cut (λ m. length m ≤ most_moments) moments' 0 (take (length keys) mends')
window_cut {Ds = Ds} {moments' = moments'} {r = r} F room o few =
    let f = laid_front (F.ends_are o) (omega (arith, (F.ends_are o).counted)) in
    subst (Cut (λ m. length m ≤ most_moments) moments' 0) (sym f)
    (cut_ends 0 (moments_of Ds) moments' (drop r.moments moments') few (omega arith) (sym (take-append-drop r.moments moments') ∙ ap (λ l. l ++ drop r.moments moments') (F.row_is o)))

-- ---- what they leave
module _ {most : ℕ} {nk nt pk pt ik iv it : List ℕ} {id : List ℤ} {ok ot keys moments nextkeys nexttimes mends ifrom ito ofrom oto : List ℕ} {p : Progress}
    (A : Seeks most nk nt pk pt ik iv it id ok ot) (R : Reached nk pk ik ok keys p) (L : LentSeek most keys moments nextkeys nexttimes mends ifrom ito ofrom oto p)
    {nfrom nto pfrom pto nfrom' nto' pfrom' pto' ifrom' ito' ofrom' oto' : List ℕ} {new pending input out : ℕ}
    (S : Searched nk p.new keys nfrom nto nfrom' nto' new × (Searched pk p.pending keys pfrom pto pfrom' pto' pending × (Searched ik p.input keys ifrom ito ifrom' ito' input × Searched ok p.out keys ofrom oto ofrom' oto' out)))
    (nf : length nfrom ≡ 64) (nl : length nto ≡ 64) (pf : length pfrom ≡ 64) (pl : length pto ≡ 64) where
  abbrev n : ℕ
  n = length keys

  new_room : SearchRoom n nfrom nto
  new_room = own_room L nfrom nto nf nl

  pending_room : SearchRoom n pfrom pto
  pending_room = own_room L pfrom pto pf pl

  pub window_parted : Parted n (length nt) (take n nfrom') (take n nto') × (Parted n (length pt) (take n pfrom') (take n pto') × (Parted n (length it) (take n ifrom') (take n ito') × Parted n (length ot) (take n ofrom') (take n oto')))
  window_parted = (
    searched_parted new_room S.0 R.ascends R.new A.new_level,
    (
      searched_parted pending_room S.1.0 R.ascends R.pending A.pending_level,
      (
        searched_parted (in_room L) S.1.1.0 R.ascends R.input A.in_level.times_long,
        searched_parted (out_room L) S.1.1.1 R.ascends R.out A.out_level,
      ),
    ),
  )

  module _ (upper : List ℕ) where
    abbrev found : ℕ → State
    found = found_in upper nk nt pk pt ik iv it id ok ot

    found_window : fourfold (state_at upper nt pt it iv id ot) (spans_in (take n nfrom') (take n nto')) (spans_in (take n pfrom') (take n pto')) (spans_in (take n ifrom') (take n ito')) (spans_in (take n ofrom') (take n oto')) ≡ map found keys
    found_window =
        window_found upper nk nt pk pt ok ot A.new_level A.pending_level A.in_level A.out_level R.ascends R.new R.pending R.input R.out
        new_room S.0 pending_room S.1.0 (in_room L) S.1.1.0 (out_room L) S.1.1.1

    pub sought : {moments' nextkeys' nexttimes' mends' : List ℕ} {t : Tally}
        → FindsWindow most keys (fourfold (state_at upper nt pt it iv id ot) (spans_in (take n nfrom') (take n nto')) (spans_in (take n pfrom') (take n pto')) (spans_in (take n ifrom') (take n ito')) (spans_in (take n ofrom') (take n oto')))
        (tally_of p) mends nextkeys nexttimes moments' mends' nextkeys' nexttimes' t
        → Sought most found nk pk ik ok keys p nextkeys nexttimes moments' nextkeys' nexttimes' mends' ifrom' ito' ofrom' oto'
        (record { new = new; pending = pending; input = input; out = out; pended = t.pended; fixes = p.fixes; crossings = p.crossings; large = p.large; over = t.over })
    sought {moments'} {nextkeys'} {nexttimes'} {mends'} {t} w =
        let F : FindsWindow most keys (map found keys) (tally_of p) mends nextkeys nexttimes moments' mends' nextkeys' nexttimes' t =
        subst (λ Ds. FindsWindow most keys Ds (tally_of p) mends nextkeys nexttimes moments' mends' nextkeys' nexttimes' t) found_window w in
        let room : n ≤ length mends = omega (arith, L.keys_few, L.mends_room) in
        record {
          new_is = S.0.end_is;
          pending_is = S.1.0.end_is;
          input_is = S.1.1.0.end_is;
          out_is = S.1.1.1.end_is;
          in_spans = searched_spans (in_room L) S.1.1.0;
          out_spans = searched_spans (out_room L) S.1.1.1;
          over_is = F.over_is;
          next_few = F.next_few;
          moments_are = λ o. window_moments F room o ∙ map-map (λ (D : State). D.moments) found keys;
          moments_cut = λ o. window_cut F room o (each_few most found (found_few upper _ _ _ _) p.over p.pended keys (sym F.over_is ∙ o));
          next_keys = F.next_keys;
          next-times = F.next-times;
          fixes-same = refl;
          crossings-same = refl;
          large_same = refl;
        }
