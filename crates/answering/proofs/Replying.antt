-- From the bytes of a request to the reply: what is read is held in the columns, what is held is lent, and what a call then leaves is printed.
--
-- read-holds: what the columns hold after reading
-- bad-replied, held-replied: the reply to a bad line, and to a request, once it is known which of them was read
-- call-replied: what is printed after the call in memory of its own is the reply
use Prim.Native.Nat.{ℕ, ◌+◌, ◌≤◌}
use native.Mathlib.Omega.{arith}
use mathlib.Core.Bool.{true}
use mathlib.Core.List.{List, ◌++◌, map}
use mathlib.Core.Path.{◌≡◌, refl, sym, ◌∙◌, ap, subst}
use lib.IntN.{ℤ, pos}
use lib.ListN.{length, take, drop, length-append, length-map}
use lib.Seq.{length-take-le}
use Rattle.grid.specs.Lists.{padded}
use Rattle.grid.specs.Records.{Columns}
use Rattle.rules.specs.Call.{Request as AnyRequest, Answer, call}
use Rattle.rules.specs.Memory.{Memory, Lent, roomy, call_lent, after}
use Rattle.form.specs.Read.{Asked, bad, asked, parse}
use Rattle.form.specs.Show.{show_answer, show_bad, reply}
use Rattle.form.proofs.Room.{most_text}
use Rattle.checks.specs.Checks.{columns}
use Rattle.demands.specs.Answers.{Retires}
use Rattle.demands.specs.Lending.{published, needed, memory, lent}
use Rattle.demands.proofs.Lending.{published_suffices}
use Rattle.reading.specs.declared.Request.{Request}
use Rattle.reading.specs.declared.BadLine.{BadLine}
use Rattle.std.proofs.Common.{Result, Ok, Err, Option, unwrap_or}
use Rattle.reading.specs.Told.{answered, RequestRead}
use Rattle.reading.proofs.Lent.{part_is, lent_of, call-lent}
use Rattle.writing.specs.declared.Results.{Results}
use Rattle.writing.specs.Answered.{standing, memory_fits, Written}
use Rattle.writing.proofs.Standing.{results_of as laid}
use Rattle.writing.proofs.Calls.{Printed, replied_bad, replied-asked}
use Rattle.answers.specs.declared.Outcome.{Outcome}
use Rattle.answering.specs.Replied.{Replied}
use Rattle.telling.specs.Said.{results_of}
use Rattle.answering.specs.declared.Lists.{Lists}
use Rattle.answering.specs.Asking.{lists_lent, fronts_lent, Holds, no_memory, Asks}

-- ---- what is printed
printed_replied : {text out out' : List ℕ} {t : Option ℕ} {n : ℕ} → Printed text out out' t → n ≡ unwrap_or t 0 → Replied text out out' n
printed_replied {text} {out} {out'} {n = n} p e =
    let l : n ≡ length text = e ∙ ap (λ t. unwrap_or t 0) p.told_all in
    let h : out' ≡ text ++ drop n out = rw l p.holds in
    let k : length out' ≡ length text + length (drop n out) = ap length h ∙ length-append text (drop n out) in
    let f : n ≤ length out' = omega arith in
    record { long = l; holds = h; fits = f; counts = sym (length-take-le n out' f) }

-- ---- what was asked
abbrev line_of : Result Request BadLine → ℕ
line_of (Err e) = e.0
line_of (Ok q) = 0

abbrev mode_of : Result Request BadLine → ℕ
mode_of (Err e) = 0
mode_of (Ok q) = q.mode

abbrev width_of : Result Request BadLine → ℕ
width_of (Err e) = 0
width_of (Ok q) = q.width

answered_bad : {n : ℕ} (a : Asked) → Err (record { 0 = n }) ≡ answered a → a ≡ bad n
answered_bad (bad k) e = ap bad (sym (ap line_of e))
answered_bad {n} (asked q) e = absurd (cc)

held_asks : {l : Lists} {s : List ℕ} {q : Request} (a : Asked) → parse s ≡ a → Holds a (Ok q) l → Asks s (fronts_lent q.mode q.width q.counts l)
held_asks (bad i) e H = let d = H.told in absurd (cc)
held_asks (asked q) e H = record {
  request = q;
  parsed = e;
  as_lent = λ i. lent (mode_of (H.told i)) (width_of (H.told i)) (H.has_lower i) (H.has_upper i) (H.has_held i) (H.has_old i) (H.has_new i) (H.has_out i) (H.has_keys i) (H.has_times i) no_memory;
}

module _ {l : Lists} {bytes bytes' : List ℕ} {r : Result Request BadLine} where
  pub bad-replied :
      {line k : ℕ} {t : Option ℕ} → most_text ≤ length bytes → r ≡ Err (record { 0 = line }) → Written true (show_bad line) bytes bytes' t → k ≡ unwrap_or t 0
      → (s : List ℕ) → Holds (parse s) r l → Replied (reply s) bytes bytes' k
  bad-replied room e w n s H = printed_replied (replied_bad s room (answered_bad (parse s) (sym e ∙ H.told)) w) n

  -- what is lent is the fronts of the columns
  pub held-replied :
      {k : ℕ} {q : Request} (f : Lists) → r ≡ Ok q → ((mode width : ℕ) → lists_lent mode width f ≡ fronts_lent mode width q.counts l)
      → ((s : List ℕ) → Asks s (lists_lent q.mode q.width f) → Replied (reply s) bytes bytes' k)
      → (s : List ℕ) → Holds (parse s) r l → Replied (reply s) bytes bytes' k
  held-replied {q = q} f e F R s H = R s (subst (Asks s) (sym (F q.mode q.width)) (held_asks (parse s) refl (subst (λ r. Holds (parse s) r l) e H)))

-- ---- what was read
list_has : {A : Type 0} (z : A) (n : ℕ) (xs : List A) {c : List A} → c ≡ padded z n xs → take (length xs) c ≡ xs
list_has z n xs e = rw e (part_is z n xs)

front_has : {A B : Type 0} (z : B) (n : ℕ) (f : A → B) (xs : List A) {c : List B} → c ≡ padded z n (map f xs) → take (length xs) c ≡ map f xs
front_has z n f xs {c} e = subst (λ (k : ℕ). take k c ≡ map f xs) (length-map xs f) (list_has z n (map f xs) e)

module _
    {lower upper held old_keys old_values old_times new_keys new_values new_times out_keys out_values out_times pending_keys pending_times : List ℕ}
    {old_diffs new_diffs out_diffs : List ℤ} (l : Lists) where
  held-as-answered : {r : Result Request BadLine} (a : Asked) → RequestRead a lower upper held old_keys old_values old_times old_diffs new_keys new_values new_times new_diffs out_keys out_values out_times out_diffs pending_keys pending_times
      l.lower.now l.upper.now l.held.now l.old.keys.now l.old.values.now l.old.times.now l.old.diffs.now l.new.keys.now l.new.values.now l.new.times.now l.new.diffs.now
      l.out.keys.now l.out.values.now l.out.times.now l.out.diffs.now l.pending_keys.now l.pending_times.now r → Holds a (answered a) l
  held-as-answered (bad n) R = record { told = refl; has_lower = refl; has_upper = refl; has_held = refl; has_old = refl; has_new = refl; has_out = refl; has_keys = refl; has_times = refl }
  held-as-answered (asked q) R = record {
    told = refl;
    has_lower = list_has 0 (length lower) q.lower R.is_lower;
    has_upper = list_has 0 (length upper) q.upper R.is_upper;
    has_held = list_has 0 (length held) q.held R.is_held;
    has_old = λ i. columns (front_has 0 (length old_keys) (λ r. r.key) q.old R.is_old_keys i) (front_has 0 (length old_values) (λ r. r.value) q.old R.is_old_values i) (front_has 0 (length old_times) (λ r. r.time) q.old R.is_old_times i) (front_has (pos 0) (length old_diffs) (λ r. r.diff) q.old R.is_old_diffs i);
    has_new = λ i. columns (front_has 0 (length new_keys) (λ r. r.key) q.new R.is_new_keys i) (front_has 0 (length new_values) (λ r. r.value) q.new R.is_new_values i) (front_has 0 (length new_times) (λ r. r.time) q.new R.is_new_times i) (front_has (pos 0) (length new_diffs) (λ r. r.diff) q.new R.is_new_diffs i);
    has_out = λ i. columns (front_has 0 (length out_keys) (λ r. r.key) q.out R.is_out_keys i) (front_has 0 (length out_values) (λ r. r.value) q.out R.is_out_values i) (front_has 0 (length out_times) (λ r. r.time) q.out R.is_out_times i) (front_has (pos 0) (length out_diffs) (λ r. r.diff) q.out R.is_out_diffs i);
    has_keys = front_has 0 (length pending_keys) (λ p. p.0) q.pending R.is_pending_keys;
    has_times = front_has 0 (length pending_times) (λ p. p.1) q.pending R.is_pending_times;
  }

  pub read-holds : {r : Result Request BadLine} {a : Asked} → RequestRead a lower upper held old_keys old_values old_times old_diffs new_keys new_values new_times new_diffs out_keys out_values out_times out_diffs pending_keys pending_times
      l.lower.now l.upper.now l.held.now l.old.keys.now l.old.values.now l.old.times.now l.old.diffs.now l.new.keys.now l.new.values.now l.new.times.now l.new.diffs.now
      l.out.keys.now l.out.values.now l.out.times.now l.out.diffs.now l.pending_keys.now l.pending_times.now r → Holds a r l
  read-holds {a = a} R = subst (λ r. Holds a r l) (sym R.told) (held-as-answered a R)

-- ---- what a call leaves
abbrev lend : Memory → Lent → Lent
lend m l = lent l.mode l.width l.lower l.upper l.held l.old l.new l.out l.pending_keys l.pending_times m

abbrev Prints : Results → Memory → List ℕ → List ℕ → Option ℕ → Type 0
Prints a m bytes bytes' t = Written (memory_fits a (length m.numbers) (length m.diffs)) (show_answer (standing a m.numbers m.diffs)) bytes bytes' t

results_are : {l : Lent} {o : Outcome} {m : Memory} {a : Answer} → call_lent (needed l) l ≡ a → Retires needed l o m → results_of o ≡ laid a
results_are e R = λ i. record {
  status = (R.status_is ∙ ap (λ (a : Answer). a.status) e) i;
  crossings = (R.crossings_are ∙ ap (λ (a : Answer). a.crossings) e) i;
  tiles = (R.tiles-many ∙ ap (λ (a : Answer). length a.tiles) e) i;
  fixes = (R.fixes-many ∙ ap (λ (a : Answer). length a.fixes) e) i;
  pending = (R.pending_many ∙ ap (λ (a : Answer). length a.pending) e) i;
  frontier = (R.frontier_many ∙ ap (λ (a : Answer). length a.frontier) e) i;
}

roomy-memory :
    (numbers moments input_keys input_values input_times output_values output_times : List ℕ)
    (diffs input_diffs output_diffs : List ℤ)
    → 25632 ≡ length numbers
    → 4096 ≡ length diffs
    → 65537 ≡ length moments
    → 8192 ≡ length input_keys
    → 8192 ≡ length input_values
    → 8192 ≡ length input_times
    → 8192 ≡ length output_values
    → 8192 ≡ length output_times
    → 8192 ≡ length input_diffs
    → 8192 ≡ length output_diffs
    → roomy published (memory numbers diffs moments input_keys input_values input_times output_values output_times input_diffs output_diffs) ≡ true
unfolding roomy
roomy-memory numbers moments input_keys input_values input_times output_values output_times diffs input_diffs output_diffs a b c d e f g h i j = rw (← a, ← b, ← c, ← d, ← e, ← f, ← g, ← h, ← i, ← j)

pub call-replied :
    {numbers moments input_keys input_values input_times output_values output_times : List ℕ}
    {diffs input_diffs output_diffs : List ℤ}
    {mode width : ℕ}
    {lower upper held : List ℕ}
    {old new out : Columns}
    {ks ts : List ℕ}
    {o : Outcome}
    {m' : Memory}
    {bytes bytes' : List ℕ}
    {a : Results}
    {t : Option ℕ}
    {n : ℕ}
    → 25632 ≡ length numbers
    → 4096 ≡ length diffs
    → 65537 ≡ length moments
    → 8192 ≡ length input_keys
    → 8192 ≡ length input_values
    → 8192 ≡ length input_times
    → 8192 ≡ length output_values
    → 8192 ≡ length output_times
    → 8192 ≡ length input_diffs
    → 8192 ≡ length output_diffs
    → most_text ≤ length bytes
    → Retires needed (lent mode width lower upper held old new out ks ts (memory numbers diffs moments input_keys input_values input_times output_values output_times input_diffs output_diffs)) o m'
    → a ≡ results_of o
    → Prints a m' bytes bytes' t
    → n ≡ unwrap_or t 0
    → (s : List ℕ)
    → Asks s (lent mode width lower upper held old new out ks ts no_memory)
    → Replied (reply s) bytes bytes' n
call-replied {numbers} {moments} {input_keys} {input_values} {input_times} {output_values} {output_times} {diffs} {input_diffs} {output_diffs} {mode} {width} {lower} {upper} {held} {old} {new} {out} {ks} {ts} {m' = m'} {bytes = bytes} {bytes'} {a} {t} e1 e2 e3 e4 e5 e6 e7 e8 e9 e10 room R ea w en s A =
    let q : AnyRequest = A.request in
    let m : Memory = memory numbers diffs moments input_keys input_values input_times output_values output_times input_diffs output_diffs in
    let L : Lent = lent mode width lower upper held old new out ks ts m in
    let c : call_lent (needed L) L ≡ call q = ap (λ l. call_lent (needed (lend m l)) (lend m l)) A.as_lent ∙ call-lent (needed (lent_of q m)) q m (published_suffices (lent_of q m) m (roomy-memory numbers moments input_keys input_values input_times output_values output_times diffs input_diffs output_diffs e1 e2 e3 e4 e5 e6 e7 e8 e9 e10)) in
    let em : m' ≡ after (call q) m = R.memory_is ∙ ap (λ (x : Answer). after x m) c in
    let er : a ≡ laid (call q) = ea ∙ results_are c R in
    let w' : Prints (laid (call q)) (after (call q) m) bytes bytes' t = subst (λ (x : Results × Memory). Prints x.0 x.1 bytes bytes' t) (λ i. (er i, em i)) w in
    printed_replied (replied-asked s room A.parsed m (omega (arith, e1)) (omega (arith, e2)) w') en
