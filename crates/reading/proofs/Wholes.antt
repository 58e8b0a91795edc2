-- The whole request, and what the columns hold after it.
--
-- head_bad, finish_bad, looked_good, looked_bad: how the reading ends
-- few: no section has over 512 lines. front_read: zeros past the lists. request-read: the whole columns
use Prim.Native.Nat.{ℕ, ◌-◌, ◌≤◌, ◌<◌}
use native.Mathlib.Omega.{arith}
use mathlib.Core.Path.{◌≡◌, refl, sym, ◌∙◌, ap, subst}
use mathlib.Core.List.{List, [], ◌++◌}
use lib.IntN.{ℤ}
use lib.ListN.{length, drop, take, replicate}
use lib.Seq.{length-take-le}
use borrow.Author.Tests.{lt-ltb, le-ltb}
use Rattle.grid.specs.Lists.{padded}
use Rattle.rules.specs.Call.{Request as AnyRequest}
use Rattle.form.specs.Text.{ascii}
use Rattle.form.specs.Read.{Reader, word, row, pair, line, many, Asked, bad, asked, ended, Sections, sections, request_from, line_after, body, request, parse}
use Rattle.records.specs.declared.Lines.{Lines}
use Rattle.records.specs.Told.{Stands, SectionsStand, RowsStored, PairsStored}
use Rattle.records.proofs.Records.{many_full}
use Rattle.std.proofs.Common.{Result, Ok, Err}
use Rattle.reading.specs.declared.BadLine.{BadLine}
use Rattle.reading.specs.declared.Counts.{Counts}
use Rattle.reading.specs.declared.Found.{Found}
use Rattle.reading.specs.Told.{FewTimes, Few, LineAfter, part, counted, no_lines, found_of, request_of, Looked, FrontRead, RequestRead}

pub parse_long : (s : List ℕ) → 65536 < length s → bad 0 ≡ parse s
unfolding parse
parse_long s h = rw (lt-ltb 65536 (length s) h)

parse_short : (s : List ℕ) → length s ≤ 65536 → request s ≡ parse s
unfolding parse
parse_short s h = rw (le-ltb 65536 (length s) h)

-- ---- a refusal
none_stand : {A : Type 0} (s : List ℕ) (p : Reader A) → Stands s p [] no_lines
none_stand s p = record { few = omega arith; counted = refl; lines = ap (λ m. m.0) (many_full p (drop 0 s)) }

pub looked_bad : {s lower upper held : List ℕ} {a : Asked} (n : ℕ) → bad n ≡ a → Looked s a lower upper held (Err (record { 0 = n }))
looked_bad {s} {lower} {upper} {held} n e = subst (λ z. Looked s z lower upper held (Err (record { 0 = n }))) e (record {
  told = refl;
  few = record { few_lower = omega arith; few_upper = omega arith; few_held = omega arith };
  has_lower = refl;
  has_upper = refl;
  has_held = refl;
  stand = record { old = none_stand s _; new = none_stand s _; out = none_stand s _; pending = none_stand s _ };
})

pub head_bad : (s : List ℕ) {n : ℕ} → length s ≤ 65536 → bad n ≡ request s → bad n ≡ parse s
head_bad s short e = e ∙ parse_short s short

-- ---- the end of the request, read after the sections
pub few : {s : List ℕ} {x : Sections} {y : Lines} → SectionsStand s x y → Few y.old.count y.new.count y.out.count y.pending.count
few R = record { few_old = R.old.few; few_new = R.new.few; few_out = R.out.few; few_pending = R.pending.few }

module _ (s lo up he : List ℕ) (m w l u h : ℕ) (at : ℕ) (short : length s ≤ 65536) (told : body m w (take l lo) (take u up) (take h he) (drop at s) ≡ request s)
    {y : Lines} (R : SectionsStand s (sections (drop at s)) y) {n : ℕ} (L : LineAfter y.old.count y.new.count y.out.count y.pending.count n) where
  abbrev asks : AnyRequest
  asks = request_from m w (take l lo) (take u up) (take h he) (sections (drop at s))

  line_is : n ≡ line_after (sections (drop at s))
  unfolding line_after
  line_is = L.line ∙ (rw (R.old.counted, R.new.counted, R.out.counted, R.pending.counted) refl)

  through : ended n asks (word (ascii "end=\n") (drop y.pending.next s)) ≡ parse s
  unfolding body
  through = (λ i. ended (line_is i) asks (word (ascii "end=\n") (R.after i))) ∙ told ∙ parse_short s short

  module _ {a : Asked} (E : (q : AnyRequest) → a ≡ ended n q (word (ascii "end=\n") (drop y.pending.next s))) where
    pub finish_bad : a ≡ parse s
    finish_bad = E asks ∙ through

  abbrev counts : Counts
  counts = record { lower = l; upper = u; held = h; old = y.old.count; new = y.new.count; out = y.out.count; pending = y.pending.count }

  module _ (E : (q : AnyRequest) → asked q ≡ ended n q (word (ascii "end=\n") (drop y.pending.next s)))
      (F : FewTimes l u h) (lower upper held : List ℕ) (r₁ : 16 ≤ length lower) (r₂ : 16 ≤ length upper) (r₃ : 16 ≤ length held) (i : length lo ≡ length lower) (j : length up ≡ length upper) (k : length he ≡ length held) where
    counts_are : counts ≡ counted asks
    counts_are =
        let p : length (take l lo) ≡ l = length-take-le l lo (omega arith) in
        let p' : length (take u up) ≡ u = length-take-le u up (omega arith) in
        let p'' : length (take h he) ≡ h = length-take-le h he (omega arith) in
        λ z. record { lower = sym p z; upper = sym p' z; held = sym p'' z; old = R.old.counted z; new = R.new.counted z; out = R.out.counted z; pending = R.pending.counted z }

    abbrev found : Found
    found = record { request = record { mode = m; width = w; counts = counts }; lines = y }

    pub looked_good : Looked s (parse s) lo up he (Ok found)
    looked_good = subst (λ z. Looked s z lo up he (Ok found)) (E asks ∙ through) (record {
      told = ap (λ c. Ok (record { mode = m; width = w; counts = c })) counts_are;
      few = F;
      has_lower = refl;
      has_upper = refl;
      has_held = refl;
      stand = record { old = R.old; new = R.new; out = R.out; pending = R.pending };
    })

-- ---- what the columns hold
pub within : {a b c : ℕ} → a ≤ b → b ≤ c → a ≤ c
within h k = omega arith

module _ {s : List ℕ} {a : Asked} {lower₁ upper₁ held₁ : List ℕ} {x : Result Found BadLine} {f : Found} (L : Looked s a lower₁ upper₁ held₁ x) (e : f ≡ found_of x) where
  pub lower_room : (lower : List ℕ) → 16 ≤ length lower → length lower₁ ≡ length lower → f.request.counts.lower ≤ length lower₁
  lower_room lower r i = omega (arith, ap (λ (f : Found). f.request.counts.lower) e, L.few.few_lower)

  pub upper_room : (upper : List ℕ) → 16 ≤ length upper → length upper₁ ≡ length upper → f.request.counts.upper ≤ length upper₁
  upper_room upper r i = omega (arith, ap (λ (f : Found). f.request.counts.upper) e, L.few.few_upper)

  pub held_room : (held : List ℕ) → 16 ≤ length held → length held₁ ≡ length held → f.request.counts.held ≤ length held₁
  held_room held r i = omega (arith, ap (λ (f : Found). f.request.counts.held) e, L.few.few_held)

list_zeros : (n : ℕ) (lower lower₁ : List ℕ) {lower' ts : List ℕ} → length lower₁ ≡ length lower → n ≤ length lower₁ → take n lower₁ ≡ ts → lower' ≡ take n lower₁ ++ replicate (length lower₁ - n) 0 → lower' ≡ padded 0 (length lower) ts
list_zeros n lower lower₁ {ts = ts} l h e c =
    let k : length ts ≡ n = ap length (sym e) ∙ length-take-le n lower₁ h in
    c ∙ (λ i. e i ++ replicate (l i - sym k i) 0)

pub front_read : {s : List ℕ} {a : Asked} (lower upper held : List ℕ) {lower₁ upper₁ held₁ lower' upper' held' : List ℕ} {x : Result Found BadLine} {f : Found} →
    Looked s a lower₁ upper₁ held₁ x → f ≡ found_of x → 16 ≤ length lower → 16 ≤ length upper → 16 ≤ length held → length lower₁ ≡ length lower → length upper₁ ≡ length upper → length held₁ ≡ length held →
    lower' ≡ take f.request.counts.lower lower₁ ++ replicate (length lower₁ - f.request.counts.lower) 0 → upper' ≡ take f.request.counts.upper upper₁ ++ replicate (length upper₁ - f.request.counts.upper) 0 → held' ≡ take f.request.counts.held held₁ ++ replicate (length held₁ - f.request.counts.held) 0 →
    FrontRead s a lower upper held lower' upper' held' x
front_read lower upper held {lower₁} {upper₁} {held₁} {x = x} {f = f} L e r₁ r₂ r₃ l₁ l₂ l₃ c₁ c₂ c₃ =
    let F = L.few in
    let a₁ = ap (λ (f : Found). f.request.counts.lower) e in
    let a₂ = ap (λ (f : Found). f.request.counts.upper) e in
    let a₃ = ap (λ (f : Found). f.request.counts.held) e in
    record {
      told = L.told;
      is_lower = list_zeros f.request.counts.lower lower lower₁ l₁ (omega (arith, F.few_lower)) (ap (λ k. take k lower₁) a₁ ∙ L.has_lower) c₁;
      is_upper = list_zeros f.request.counts.upper upper upper₁ l₂ (omega (arith, F.few_upper)) (ap (λ k. take k upper₁) a₂ ∙ L.has_upper) c₂;
      is_held = list_zeros f.request.counts.held held held₁ l₃ (omega (arith, F.few_held)) (ap (λ k. take k held₁) a₃ ∙ L.has_held) c₃;
      stand = L.stand;
    }

module _
    {s lower upper held lower' upper' held' : List ℕ}
    {old_keys old_values old_times old_keys' old_values' old_times' : List ℕ}
    {old_diffs old_diffs' : List ℤ}
    {new_keys new_values new_times new_keys' new_values' new_times' : List ℕ}
    {new_diffs new_diffs' : List ℤ}
    {out_keys out_values out_times out_keys' out_values' out_times' : List ℕ}
    {out_diffs out_diffs' : List ℤ}
    {pending_keys pending_times pending_keys' pending_times' : List ℕ}
    {a : Asked} {x : Result Found BadLine} {f : Found}
    (F : FrontRead s a lower upper held lower' upper' held' x)
    (e : f ≡ found_of x)
  where
    pub request-read :
        RowsStored (many (line (ascii "old=") row) f.lines.old.count (drop f.lines.old.first s)).0 old_keys old_values old_times old_diffs old_keys' old_values' old_times' old_diffs' →
        RowsStored (many (line (ascii "new=") row) f.lines.new.count (drop f.lines.new.first s)).0 new_keys new_values new_times new_diffs new_keys' new_values' new_times' new_diffs' →
        RowsStored (many (line (ascii "out=") row) f.lines.out.count (drop f.lines.out.first s)).0 out_keys out_values out_times out_diffs out_keys' out_values' out_times' out_diffs' →
        PairsStored (many (line (ascii "pend=") pair) f.lines.pending.count (drop f.lines.pending.first s)).0 pending_keys pending_times pending_keys' pending_times' →
        RequestRead a lower upper held old_keys old_values old_times old_diffs new_keys new_values new_times new_diffs out_keys out_values out_times out_diffs pending_keys pending_times lower' upper' held' old_keys' old_values' old_times' old_diffs' new_keys' new_values' new_times' new_diffs' out_keys' out_values' out_times' out_diffs' pending_keys' pending_times' (request_of x)
    request-read o₀ n₀ u₀ p₀ =
        let o : RowsStored (part (λ q. q.old) a) old_keys old_values old_times old_diffs old_keys' old_values' old_times' old_diffs' = rw (e, F.stand.old.lines) at o₀ in
        let n : RowsStored (part (λ q. q.new) a) new_keys new_values new_times new_diffs new_keys' new_values' new_times' new_diffs' = rw (e, F.stand.new.lines) at n₀ in
        let u : RowsStored (part (λ q. q.out) a) out_keys out_values out_times out_diffs out_keys' out_values' out_times' out_diffs' = rw (e, F.stand.out.lines) at u₀ in
        let p : PairsStored (part (λ q. q.pending) a) pending_keys pending_times pending_keys' pending_times' = rw (e, F.stand.pending.lines) at p₀ in
        record {
          told = F.told;
          is_lower = F.is_lower;
          is_upper = F.is_upper;
          is_held = F.is_held;
          is_old_keys = o.keys;
          is_old_values = o.values;
          is_old_times = o.times;
          is_old_diffs = o.diffs;
          is_new_keys = n.keys;
          is_new_values = n.values;
          is_new_times = n.times;
          is_new_diffs = n.diffs;
          is_out_keys = u.keys;
          is_out_values = u.values;
          is_out_times = u.times;
          is_out_diffs = u.diffs;
          is_pending_keys = p.keys;
          is_pending_times = p.times;
        }
