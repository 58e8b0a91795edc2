-- One window's turn.
--
-- in_sorted, out_sorted: the keys of the runs ascend
-- turn_seeks, turn_lends: what its first half asks, turn_wide, turn_corrects: what its second half asks. turned: what it leaves
-- fronts_scratch, fronts_room: what the search and discovery ask
use Prim.Native.Nat.{ℕ, ◌+◌, ◌≤◌}
use native.Mathlib.Omega.{arith}
use mathlib.Core.Bool.{false}
use mathlib.Core.List.{List, [], ◌∷◌, map}
use mathlib.Core.Path.{◌≡◌, refl, sym, ◌∙◌, ap, subst}
use lib.Dec.{leb}
use lib.IntN.{ℤ}
use lib.ListN.{length, take}
use lib.Seq.{length-take-le}
use Rattle.grid.specs.Records.{Row, most_records}
use Rattle.grid.proofs.Tests.{or_false_l}
use Rattle.grid.proofs.Sort.{Sorted}
use Rattle.rules.specs.Histories.{Edit}
use Rattle.rules.specs.Call.{edits_of}
use Rattle.backends.specs.Segments.{segments}
use Rattle.keys.proofs.Spans.{rows_keys}
use Rattle.keys.proofs.Ranked.{ranked_keys, modest_light}
use Rattle.finding.specs.Tallies.{Scratch}
use Rattle.finding.specs.Windowed.{window_over}
use Rattle.moments.specs.Present.{edits}
use Rattle.moments.specs.Window.{parts_of}
use Rattle.slots.specs.Slots.{slots_of}
use Rattle.fixing.specs.Settle.{LentFixes}
use Rattle.seeking.specs.Sought.{Seeks, LentSeek, Sought}
use Rattle.progress.specs.declared.Progress.{Progress}
use Rattle.fronts.specs.declared.Fronts.{Fronts}
use Rattle.fronts.specs.Filled.{Full}
use Rattle.turns.specs.Runs.{Runs, in_rows, out_rows, found_of, slot_at, Good}
use Rattle.mending.specs.Corrected.{Mended, Wide, Corrects, Corrected}
use Rattle.turns.specs.Worked.{LentWork, LentFronts, Takes, Turned}
use Rattle.turns.proofs.Parts.{parts_are, parts_apart}

module _ {most : ℕ} {R : Runs} (g : Good most R) where
  pub in_sorted : Sorted leb R.in_keys
  in_sorted = subst (Sorted leb) (rows_keys g.in_level) (ranked_keys g.in_ranked)

  pub out_sorted : Sorted leb R.out_keys
  out_sorted = subst (Sorted leb) (rows_keys g.out_level) (ranked_keys g.out_ranked)

  pub turn_seeks : {m : ℕ} → m ≡ most → most ≤ most_records → Seeks m R.new_keys R.new_times R.pending_keys R.pending_times R.in_keys R.in_values R.in_times R.in_diffs R.out_keys R.out_times
  turn_seeks e h = rw e (record {
    new_level = g.new_level;
    new_few = g.new_few;
    new_ascends = g.new_ascends;
    pending_level = g.pending_level;
    pending_few = g.pending_few;
    pending_ascends = g.pending_ascends;
    in_level = g.in_level;
    in_few = g.in_few;
    in_ascends = in_sorted;
    in_light = modest_light g.in_modest (omega (arith, g.in_level.diffs_long, g.in_few));
    out_level = g.out_level.times_long;
    out_few = g.out_few;
    out_ascends = out_sorted;
  })

-- ---- memory
module _ {most w : ℕ} {moments uv ut : List ℕ} {ud : List ℤ} {iv : List ℕ} {id : List ℤ} {ov : List ℕ} {od cd : List ℤ} {wv seeds output tracked nk nt fk fv ft : List ℕ} {fd : List ℤ} {res : List ℕ}
    (l : LentWork most w moments uv ut ud iv id ov od cd wv seeds output tracked nk nt fk fv ft fd res) where
  pub turn_lends : {R : Runs} {keys : List ℕ} {p : Progress} → w ≡ length keys → Takes most R keys p → LentFronts (length nk) keys seeds uv ut ud output res tracked moments iv ov wv id nk nt p
  turn_lends e t = rw l.long_nk (record {
    keys_few = t.few;
    room_few = l.wide.room_few;
    long_seeds = l.long_seeds;
    long_uv = l.wide.long_uv;
    long_ut = l.wide.long_ut;
    long_ud = l.wide.long_ud;
    long_output = l.long_output;
    room_res = l.wide.room_res;
    long_tracked = l.long_tracked;
    moments_room = rw (← e) l.moments_room;
    long_iv = l.wide.long_iv;
    long_ov = l.wide.long_ov;
    room_wv = l.room_wv;
    for_tracked = l.for_tracked;
    long_id = l.wide.long_id;
    long_nk = l.long_nk;
    long_nt = l.long_nt;
    next_few = t.next_few;
  })

  pub turn_wide : {uv' ut' : List ℕ} {ud' : List ℤ} {iv' : List ℕ} {id' : List ℤ} {ov' res' : List ℕ} → length uv' ≡ length uv → length ut' ≡ length ut → length ud' ≡ length ud → length iv' ≡ length iv → length id' ≡ length id → length ov' ≡ length ov → length res' ≡ length res
      → Wide most uv' ut' ud' iv' id' ov' od cd res'
  turn_wide a b c d e f g = record {
    long_uv = a ∙ l.wide.long_uv;
    long_ut = b ∙ l.wide.long_ut;
    long_ud = c ∙ l.wide.long_ud;
    long_iv = d ∙ l.wide.long_iv;
    long_id = e ∙ l.wide.long_id;
    long_ov = f ∙ l.wide.long_ov;
    long_od = l.wide.long_od;
    long_cd = l.wide.long_cd;
    room_few = l.wide.room_few;
    room_res = rw g l.wide.room_res;
  }

module _ {most : ℕ} {keys seeds uv ut : List ℕ} {ud : List ℤ} {output res tracked moments iv ov wv : List ℕ} {id : List ℤ} {nk nt : List ℕ} {p : Progress}
    (l : LentFronts most keys seeds uv ut ud output res tracked moments iv ov wv id nk nt p) where
  pub fronts_scratch : {waiting pended : List ℕ} → length waiting ≡ 1025 → length pended ≡ 1025 → Scratch most seeds uv ut ud output res waiting tracked pended wv ov iv id
  fronts_scratch a b = record {
    seeds_room = omega (arith, l.long_seeds);
    input_alike = record { values = l.long_ut ∙ sym l.long_uv; diffs = l.long_ud ∙ sym l.long_uv };
    input_room = omega (arith, l.long_uv);
    output_room = omega (arith, l.long_output);
    meets_room = omega (arith, l.room_few, l.room_res);
    waiting_room = omega (arith, a);
    tracked_room = omega (arith, l.long_tracked);
    pended_room = omega (arith, b);
    work_room = l.room_wv;
    for_tracked = l.for_tracked;
    places_room = omega (arith, l.long_ov);
    wvalues_room = omega (arith, l.long_iv);
    wdiffs_room = omega (arith, l.long_id);
  }

  pub fronts_room : {mends ifrom ito ofrom oto : List ℕ} → length mends ≡ 64 → length ifrom ≡ 64 → length ito ≡ 64 → length ofrom ≡ 64 → length oto ≡ 64 → LentSeek most keys moments nk nt mends ifrom ito ofrom oto p
  fronts_room a b c d e = record {
    keys_few = l.keys_few;
    moments_room = l.moments_room;
    next_room = record { within = l.next_few; keys_room = l.long_nk; times_room = l.long_nt; room_few = l.room_few };
    mends_room = omega (arith, a);
    ifrom_room = omega (arith, b);
    ito_room = omega (arith, c);
    ofrom_room = omega (arith, d);
    oto_room = omega (arith, e);
  }

-- ---- the slots
slots_at : (R : Runs) (ks : List ℕ) → slots_of ks (map (λ k. edits_of k (in_rows R)) ks) (map (λ k. edits_of k (out_rows R)) ks) (map (λ k. (found_of R k).moments) ks) ≡ map (slot_at R) ks
unfolding slots_of slot_at
slots_at R [] = refl
slots_at R (k ∷ ks) = ap (λ l. slot_at R k ∷ l) (slots_at R ks)

-- the front of a column of 64, as long as there are keys
front_long : (keys l : List ℕ) → length keys ≤ 64 → length l ≡ 64 → length (take (length keys) l) ≡ length keys
front_long keys l h e = length-take-le (length keys) l (omega arith)

module _ {most : ℕ} {R : Runs} {keys : List ℕ} {p : Progress} {nk nt moments' nk' nt' : List ℕ} {f : Fronts} (t : Takes most R keys p) (F : Full f) {m : ℕ} (same : m ≡ most)
    (S₀ : Sought m (found_of R) R.new_keys R.pending_keys R.in_keys R.out_keys keys p nk nt moments' nk' nt' f.mends f.ifrom f.ito f.ofrom f.oto f.progress) where
  S : Sought most (found_of R) R.new_keys R.pending_keys R.in_keys R.out_keys keys p nk nt moments' nk' nt' f.mends f.ifrom f.ito f.ofrom f.oto f.progress
  S = rw same at S₀

  abbrev s : Progress
  s = f.progress

  abbrev n : ℕ
  n = length keys

  under : s.over ≡ false → p.over ≡ false
  unfolding window_over
  under o = or_false_l p.over _ (sym S.over_is ∙ o)

  in_same : length (take n f.ifrom) ≡ length (take n f.ito)
  in_same = front_long keys f.ifrom t.few F.long_ifrom ∙ sym (front_long keys f.ito t.few F.long_ito)

  out_same : length (take n f.ofrom) ≡ length (take n f.oto)
  out_same = front_long keys f.ofrom t.few F.long_ofrom ∙ sym (front_long keys f.oto t.few F.long_oto)

  pub turn_corrects : {fk fv ft : List ℕ} {fd : List ℤ} → most ≤ most_records → LentFixes most fk fv ft fd
      → Corrects most keys moments' (take n f.mends) (take n f.ifrom) (take n f.ito) R.in_values R.in_times R.in_diffs (take n f.ofrom) (take n f.oto) R.out_values R.out_times R.out_diffs fk fv ft fd s
  turn_corrects h l =
      let g = t.good in
      let i = g.in_level in
      let o = g.out_level in
      record {
        slotted = λ z. record {
          few = t.few;
          same_m = front_long keys f.mends t.few F.long_mends;
          same_f = front_long keys f.ifrom t.few F.long_ifrom;
          same_e = front_long keys f.ito t.few F.long_ito;
          same_t = i.times_long ∙ sym i.values_long;
          same_d = i.diffs_long ∙ sym i.values_long;
          short = omega (arith, i.values_long, g.in_few);
          apart = parts_apart i g.in_ranked g.in_modest (omega (arith, g.in_few)) t.reached.ascends t.reached.input S.in_spans in_same;
          cut_m = S.moments_cut z;
          same_of = front_long keys f.ofrom t.few F.long_ofrom;
          same_oe = front_long keys f.oto t.few F.long_oto;
          same_ot = o.times_long ∙ sym o.values_long;
          same_od = o.diffs_long ∙ sym o.values_long;
          out_few = omega (arith, o.values_long, g.out_few);
          out_apart = parts_apart o g.out_ranked g.out_modest (omega (arith, g.out_few)) t.reached.ascends t.reached.out S.out_spans out_same;
        };
        few = t.few;
        lent = l;
        fits = λ z h. rw S.fixes-same (t.fits (under z) (sym S.large_same ∙ h));
        counts = λ z h. rw S.crossings-same (t.counts (under z) (sym S.large_same ∙ h));
      }

  abbrev inputs : List (List Edit)
  inputs = parts_of (take n f.ifrom) (take n f.ito) (edits R.in_values R.in_times R.in_diffs)

  abbrev outputs : List (List Edit)
  outputs = parts_of (take n f.ofrom) (take n f.oto) (edits R.out_values R.out_times R.out_diffs)

  slots_are : s.over ≡ false → slots_of keys inputs outputs (segments 0 (take n f.mends) moments') ≡ map (slot_at R) keys
  slots_are z =
      (let i = parts_are t.good.in_level (take n f.ifrom) (take n f.ito) keys t.reached.ascends t.reached.input S.in_spans in_same in
      let o = parts_are t.good.out_level (take n f.ofrom) (take n f.oto) keys t.reached.ascends t.reached.out S.out_spans out_same in
      let m = S.moments_are z in
      λ x. slots_of keys (i x) (o x) (m x)) ∙ slots_at R keys

  mended : {new : List Row} {crossed : ℕ} {r : Progress} {fk fv ft : List ℕ} {fd : List ℤ} {fk' fv' ft' : List ℕ} {fd' : List ℤ} → Mended most new crossed s r fk fv ft fd fk' fv' ft' fd' → Mended most new crossed p r fk fv ft fd fk' fv' ft' fd'
  mended {crossed = crossed} m = record {
    listed = rw S.fixes-same at m.listed;
    crossings_are = λ h. m.crossings_are h ∙ ap (λ c. c + crossed) S.crossings-same;
  }

  pub turned : {mode : ℕ} {fk fv ft : List ℕ} {fd : List ℤ} {fk' fv' ft' : List ℕ} {fd' : List ℤ} {r : Progress} → Corrected most mode keys inputs outputs (segments 0 (take n f.mends) moments') s r fk fv ft fd fk' fv' ft' fd'
      → Turned most R mode keys p nk nt fk fv ft fd nk' nt' fk' fv' ft' fd' r
  turned C = record {
    new_is = C.new_same ∙ S.new_is;
    pending_is = C.pending_same ∙ S.pending_is;
    input_is = C.input_same ∙ S.input_is;
    out_is = C.out_same ∙ S.out_is;
    over_is = C.over-same ∙ S.over_is;
    next_few = rw C.pended_same S.next_few;
    next_keys = λ z. rw C.pended_same (S.next_keys (sym C.over-same ∙ z));
    next-times = λ z. rw C.pended_same (S.next-times (sym C.over-same ∙ z));
    stays_large = λ h. C.stays_large (S.large_same ∙ h);
    settles = λ z h. (let o : s.over ≡ false = sym C.over-same ∙ z in mended (rw (slots_are o) at (C.settles o (S.large_same ∙ h))));
  }
