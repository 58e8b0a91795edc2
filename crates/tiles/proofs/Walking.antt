-- The tiles, one held time after the other.
--
-- kept_none, kept_one: what is written of a held time whose tile is skipped, and of one whose tile is kept
-- tiles-kept: the tiles of held times are the first one's, if it is kept, and the others'
use Prim.Native.Nat.{ℕ, ◌+◌, ◌*◌, ◌-◌, ◌≤◌, ◌<◌}
use native.Mathlib.Omega.{arith}
use mathlib.Core.Bool.{true, false}
use mathlib.Core.List.{List, [], ◌∷◌, ◌++◌, append_assoc, append-nil, map-append}
use mathlib.Core.Path.{◌≡◌, refl, sym, ◌∙◌, ap, subst}
use lib.ListN.{length, take, drop, get_or, set, length-append, length-take, length-drop, drop_of_length-le}
use lib.Seq.{length-take-le, take_all}
use Rattle.grid.specs.Lists.{flat, same}
use Rattle.grid.specs.Frontiers.{all_inserted}
use Rattle.grid.proofs.Tests.{by-test}
use Rattle.grid.proofs.Loops.{drop_more}
use Rattle.grid.proofs.Frontiers.{all_inserted-length}
use Rattle.rules.specs.Tiles.{Tile, tiles}
use Rattle.rules.specs.Memory.{most_bound, tile_size, tile_numbers}
use Rattle.grid.specs.Slices.{Laid}
use Rattle.grid.proofs.Slices.{Laying, laying_start, laying_end, laid_from, laid-length, laid_front, laid_back, laid-twice}
use Rattle.grid.proofs.Operations.{flat_append}
use Rattle.tiles.specs.Described.{kept, held_times, Front, Kept, Tiled, Roomy}
use Rattle.tiles.proofs.Writing.{laid-at, tile-length}

-- ---- one held time
module _ (lower cut : List ℕ) (h : ℕ) (out times : List ℕ) (count : ℕ) where
  pub kept_none : count * tile_size + tile_size ≤ length out → count < length times → same cut lower ≡ true → Kept lower cut h out out times times count count
  unfolding kept held_times
  kept_none f g e = record {
    numbers = rw (e, append-nil) (laid_from (take (count * tile_size) out) out out (count * tile_size) (omega arith) refl refl refl);
    helds = rw (e, append-nil) (laid_from (take count times) times times count (omega arith) refl refl refl);
  }

  pub kept_one : {out' : List ℕ} {r : ℕ} → count * tile_size + tile_size ≤ length out → count < length times → length lower ≤ most_bound → length cut ≤ most_bound → same cut lower ≡ false
      → Laid (take (count * tile_size) out ++ tile_numbers (record { lower = lower; upper = cut; held = h })) out out' r → Kept lower cut h out out' times (set times count h) count (count + 1)
  unfolding kept held_times
  kept_one {out'} {r} f g l u e w =
      let n : length (take (count * tile_size) out ++ tile_numbers (record { lower = lower; upper = cut; held = h })) ≡ (count + 1) * tile_size =
      length-append (take (count * tile_size) out) _ ∙ rw (length-take-le (count * tile_size) out (omega arith), tile-length lower cut h l u) (omega arith) in
      record {
        numbers = rw (e, append-nil) (subst (Laid (take (count * tile_size) out ++ tile_numbers (record { lower = lower; upper = cut; held = h })) out out') (w.counted ∙ n) w);
        helds = rw e (laid-at times count h (omega arith));
      }

  pub kept_counts : length lower ≤ most_bound → length cut ≤ most_bound → (length (flat tile_numbers (kept lower cut h)) ≤ 65) × (length (held_times (kept lower cut h)) ≤ 1)
  unfolding kept held_times
  kept_counts l u =
      by-test (same cut lower) (λ e. rw e (omega arith, omega arith))
      (λ e. rw e (rw append-nil (omega (arith, tile-length lower cut h l u)), omega arith))

pub tiles-kept : (lower upper : List ℕ) (h : ℕ) (later : List ℕ)
    → tiles lower upper (h ∷ later) ≡ kept lower (all_inserted later upper) h ++ tiles (all_inserted later upper) upper later
unfolding tiles kept
tiles-kept lower upper h later = by-test (same (all_inserted later upper) lower) (λ e. rw e) (λ e. rw e)

held_times-append : (ts us : List Tile) → held_times (ts ++ us) ≡ held_times ts ++ held_times us
unfolding held_times
held_times-append ts us = map-append (λ (t : Tile). t.held) ts us

-- ---- all held times
laying_part : {A : Type 0} (xs : List A) {s₀ s s' : List A} {k r : ℕ} {rest goal : List A} → Laying s₀ s k (xs ++ rest) goal → k + length xs ≤ length s → Laid (take k s ++ xs) s s' r → Laying s₀ s' r rest goal
laying_part xs {s₀} {s} {s'} {k} {r} {rest} {goal} w h l =
    let n : length s ≡ length s₀ = w.same in
    let m : length (take k s ++ xs) ≡ length (take k s) + length xs = length-append (take k s) xs in
    let t : length (take k s) ≡ k = length-take-le k s w.within in
    let all : Laid (take k s ++ xs) s₀ s' r = laid-twice (laid_from (take k s) s₀ s k (omega (arith, w.within)) n refl w.ahead) l (omega arith) (omega arith) in
    let n' : length s' ≡ length s = ap length l.holds ∙ laid-length (take k s ++ xs) s in
    record {
      within = omega (arith, l.counted);
      same = n' ∙ n;
      done = rw (laid_front l (omega arith)) (append_assoc (take k s) xs rest ∙ w.done);
      ahead = laid_back all (omega arith);
    }

pub record Walking (lower upper held out₀ out times₀ times low₀ low up₀ up : List ℕ) (last count i : ℕ) : Type 0 where
  pub roomy : Roomy (length lower) (length upper) (length held) (length out) (length times) (length low) (length up)
  pub same_low : length low ≡ length low₀
  pub same_up : length up ≡ length up₀
  pub within : i ≤ length held
  pub few : count ≤ i
  pub short : last ≤ most_bound
  pub numbers : Laying out₀ out (count * tile_size) (flat tile_numbers (tiles (take last low) upper (drop i held))) (flat tile_numbers (tiles lower upper held))
  pub helds : Laying times₀ times count (held_times (tiles (take last low) upper (drop i held))) (held_times (tiles lower upper held))

pub walking_start : {lower upper held out times low₀ low up : List ℕ} {last : ℕ}
    → Roomy (length lower) (length upper) (length held) (length out) (length times) (length low₀) (length up) → Laid (take 0 low₀ ++ lower) low₀ low last
    → Walking lower upper held out out times times low low up up last 0 0
walking_start {lower} {upper} {held} {out} {times} {low₀} {low} {up} {last} r l =
    let n : length low ≡ length low₀ = ap length l.holds ∙ laid-length lower low₀ in
    let e : take last low ≡ lower = laid_front l (omega (arith, r.few_lower, r.room_low)) in
    record {
      roomy = subst (λ m. Roomy (length lower) (length upper) (length held) (length out) (length times) m (length up)) (sym n) r;
      same_low = refl;
      same_up = refl;
      within = omega arith;
      few = omega arith;
      short = omega (arith, l.counted, r.few_lower);
      numbers = rw e (laying_start out _);
      helds = rw e (laying_start times _);
    }

module _ {lower upper held out₀ out times₀ times low₀ low up₀ up : List ℕ} {last count i : ℕ} (w : Walking lower upper held out₀ out times₀ times low₀ low up₀ up last count i) (h : i < length held) where
  -- the later held times, as they are lent
  later : take (length held - (i + 1)) (drop (i + 1) held) ≡ drop (i + 1) held
  later = take_all (length held - (i + 1)) (drop (i + 1) held) (rw (length-drop (i + 1) held) (omega arith))

  module _ {up' : List ℕ} {next : ℕ} (f : Front (all_inserted (take (length held - (i + 1)) (drop (i + 1) held)) upper) up' next) where
    cut_is : take next up' ≡ all_inserted (drop (i + 1) held) upper
    cut_is = f.holds ∙ ap (λ l. all_inserted l upper) later

    cut_short : length (take next up') ≤ most_bound
    cut_short =
        rw cut_is
        (omega (arith, all_inserted-length upper (drop (i + 1) held), length-drop (i + 1) held, w.roomy.few_held, w.roomy.few_upper))

    last_short : length (take last low) ≤ most_bound
    last_short = rw length-take (omega (arith, w.short))

    kept_fits : ((count * tile_size + tile_size ≤ length out) × (count < length times)) × ((length (take last low) ≤ most_bound) × (length (take next up') ≤ most_bound))
    kept_fits =
        ((omega (arith, w.few, w.roomy.few_held, w.roomy.room_out), omega (arith, w.few, w.roomy.few_held, w.roomy.room_times)), (last_short, cut_short))

    copy_fits : 0 + length (take next up') ≤ length low
    copy_fits = omega (arith, cut_short, w.roomy.room_low)

    module _ {out' times' low' : List ℕ} {r last' : ℕ} (same-up' : length up' ≡ length up) (k : Kept (take last low) (take next up') (get_or held i 0) out out' times times' count r)
        (l : Laid (take 0 low ++ take next up') low low' last') where
      now : List Tile
      now = kept (take last low) (take next up') (get_or held i 0)

      low_is : take last' low' ≡ take next up'
      low_is = laid_front l (omega (arith, cut_short, w.roomy.room_low))

      tiles_left : tiles (take last low) upper (drop i held) ≡ now ++ tiles (take last' low') upper (drop (i + 1) held)
      unfolding now
      tiles_left =
          ap (tiles (take last low) upper) (drop_more held i 0 h) ∙ tiles-kept (take last low) upper (get_or held i 0) (drop (i + 1) held)
          ∙ ap (λ c. kept (take last low) c (get_or held i 0) ++ tiles c upper (drop (i + 1) held)) (sym cut_is)
          ∙ ap (λ c. kept (take last low) (take next up') (get_or held i 0) ++ tiles c upper (drop (i + 1) held)) (sym low_is)

      now_counts : (length (flat tile_numbers now) ≤ 65) × (length (held_times now) ≤ 1)
      unfolding now
      now_counts = kept_counts (take last low) (take next up') (get_or held i 0) out times count last_short cut_short

      walks : Walking lower upper held out₀ out' times₀ times' low₀ low' up₀ up' last' r (i + 1)
      unfolding now
      walks =
          let n_out : length out' ≡ length out = ap length k.numbers.holds ∙ laid-length _ out in
          let n_times : length times' ≡ length times = ap length k.helds.holds ∙ laid-length _ times in
          let n_low : length low' ≡ length low = ap length l.holds ∙ laid-length _ low in
          let t : length (take count times) ≡ count = length-take-le count times w.helds.within in
          let c : length (take count times ++ held_times now) ≡ length (take count times) + length (held_times now) = length-append (take count times) (held_times now) in
          record {
            roomy = rw (n_out, n_times, n_low, same-up') w.roomy;
            same_low = n_low ∙ w.same_low;
            same_up = same-up' ∙ w.same_up;
            within = omega arith;
            few = omega (arith, w.few, now_counts.1, k.helds.counted);
            short = omega (arith, l.counted, cut_short);
            numbers = laying_part (flat tile_numbers now) (subst (λ ts. Laying out₀ out (count * tile_size) ts (flat tile_numbers (tiles lower upper held))) (ap (flat tile_numbers) tiles_left ∙ flat_append tile_numbers now _) w.numbers)
                (omega (arith, kept_fits.0.0, now_counts.0)) k.numbers;
            helds = laying_part (held_times now) (subst (λ ts. Laying times₀ times count ts (held_times (tiles lower upper held))) (ap held_times tiles_left ∙ held_times-append now _) w.helds)
                (omega (arith, kept_fits.0.1, now_counts.1)) k.helds;
          }

  -- the same, of parts as they are lent
  module _ {up' : List ℕ} {next : ℕ} (f : Front (all_inserted (take (length held - (i + 1)) (drop (i + 1) held)) upper) up' next) where
    pub kept_room : ((count * tile_size + tile_size ≤ length out) × (count < length times)) × ((length (take last low) ≤ most_bound) × (length (take next up') ≤ most_bound))
    kept_room = kept_fits f

    pub copy_room : 0 + length (take next up') ≤ length low
    copy_room = copy_fits f

    pub walking_more : {out' times' low' : List ℕ} {r last' : ℕ} → length up' ≡ length up → Kept (take last low) (take next up') (get_or held i 0) out out' times times' count r
        → Laid (take 0 low ++ take next up') low low' last' → Walking lower upper held out₀ out' times₀ times' low₀ low' up₀ up' last' r (i + 1)
    walking_more e k l = walks f e k l

pub walking_end : {lower upper held out₀ out times₀ times low₀ low up₀ up : List ℕ} {last count i : ℕ} → Walking lower upper held out₀ out times₀ times low₀ low up₀ up last count i
    → length held ≤ i → Tiled (tiles lower upper held) out₀ out times₀ times count
unfolding tiles held_times
walking_end {lower} {upper} {held} {out₀} {out} {times₀} {times} {low₀} {low} {up₀} {up} {last} {count} {i} w h =
    let none : tiles (take last low) upper (drop i held) ≡ [] = ap (tiles (take last low) upper) (drop_of_length-le held h) in
    record { numbers = laying_end w.numbers (ap (flat tile_numbers) none); helds = laying_end w.helds (ap held_times none) }
