-- "Input: mode (count or distinct), width, lower, upper, held, old, new, out, pend, end, in this order; old, new, out, pend repeat zero or more
-- times, at most 512 each; old and out are written as new, pend as in the output. Each line ends in a line feed; nothing follows end. Times
-- a:b, lists of up to 16 joined by ';', empty list '-'; decimal without leading zeros, a minus only in a diff and before a nonzero number;
-- width unsigned and diff signed 64 bits, others by their own widths; what then fails a check gets that check's status. At most 65,536 bytes
-- (larger: line 0). First bad or missing line gives 20; lines count from 1."
--
-- Reader: takes the bytes that are left, and answers what it read and the bytes after it, or none
-- then, word, ending, line: readers put together
-- number, signed, time, list, mode, row, pair: what stands after the name of a line. the_row: a record from its parts
-- many p k: as many as p reads, at most k; it never fails
-- Sections: the lines of records. A bad, misplaced or 513th line of a kind is left for end, which refuses it with the right number
-- Asked: a request, or the number of the first bad or missing line. parse: of all bytes
use Rattle.std.specs.Prelude.{ℕ, zero, suc, ◌+◌, ◌-◌, ◌*◌, Bool, true, false, cond, ◌&&◌, not, List, [], ◌∷◌, leb, ltb, eqb, length, ℤ, pos, negsuc}
use Rattle.std.proofs.Math.Option.{Option, none, some}
use Rattle.grid.specs.Lists.{front, past}
use Rattle.grid.specs.Times.{at}
use Rattle.grid.specs.Frontiers.{most_times}
use Rattle.grid.specs.Records.{Row}
use Rattle.rules.specs.Call.{Request}
use Rattle.form.specs.Text.{ascii}

abbrev pub most_bytes : ℕ
most_bytes = 65536

abbrev pub most_lines : ℕ
most_lines = 512

abbrev pub Reader : Type 0 → Type 0
Reader A = List ℕ → Option (A × List ℕ)

abbrev pub then : {A B : Type 0} → Option A → (A → Option B) → Option B
then none f = none
then (some x) f = f x

-- the bytes of w, of which nothing is kept
unfoldable pub word : List ℕ → List ℕ → Option (List ℕ)
word [] s = some s
word (c ∷ w) [] = none
word (c ∷ w) (b ∷ s) = let r = word w s in cond (eqb b c) r none

-- what p reads, and the bytes of w after it
unfoldable pub ending : {A : Type 0} → List ℕ → Reader A → Reader A
ending w p s = then (p s) (λ x. then (word w x.1) (λ r. some (x.0, r)))

-- ---- numbers
abbrev pub digit : ℕ → Bool
digit b = leb 48 b && leb b 57

-- the number that more digits make of n
unfoldable pub value : ℕ → List ℕ → ℕ
value n [] = n
value n (b ∷ s) = value (n * 10 + (b - 48)) s

-- some digit, and no 0 before another digit
unfoldable pub plain : List ℕ → Bool
plain [] = false
plain (b ∷ []) = true
plain (b ∷ c ∷ s) = not (eqb b 48)

unfoldable pub up_to : ℕ → ℕ → Reader ℕ
up_to most n s = let v = value n (front digit s) in cond (leb v most) (some (v, past digit s)) none

unfoldable pub number : ℕ → Reader ℕ
number most s = cond (plain (front digit s)) (up_to most 0 s) none

abbrev pub max32 : ℕ
max32 = 4294967295

abbrev pub max64 : ℕ
max64 = 18446744073709551615

abbrev pub max63 : ℕ
max63 = 9223372036854775807

unfoldable pub negated : ℕ × List ℕ → Option (ℤ × List ℕ)
negated (zero, s) = none
negated (suc n, s) = some (negsuc n, s)

unfoldable pub signed : Reader ℤ
signed [] = none
signed (b ∷ s) = cond (eqb b 45) (then (number (suc max63) s) negated) (then (number max63 (b ∷ s)) (λ n. some (pos n.0, n.1)))

-- ---- times and lists of times
unfoldable pub time : Reader ℕ
time s =
    then (ending (ascii ":") (number max32) s) (λ a.
    then (number max32 a.1) (λ b.
    some (at a.0 b.0, b.1)))

-- one to k times joined by ";"
unfoldable pub times : ℕ → Reader (List ℕ)
times zero s = none
times (suc k) s =
    then (time s) (λ t.
    elim (word (ascii ";") t.1) [
      | none ↦ some (t.0 ∷ [], t.1)
      | some r ↦ then (times k r) (λ ts. some (t.0 ∷ ts.0, ts.1))
    ])

unfoldable pub list : Reader (List ℕ)
list s = elim (word (ascii "-") s) [ none ↦ times most_times s | some r ↦ some ([], r) ]

-- ---- lines
unfoldable pub mode : Reader ℕ
mode s = elim (word (ascii "count") s) [ some r ↦ some (1, r) | none ↦ then (word (ascii "distinct") s) (λ r. some (2, r)) ]

-- a name, what p reads, and the line feed
unfoldable pub line : {A : Type 0} → List ℕ → Reader A → Reader A
line name p s = then (word name s) (ending (ascii "\n") p)

abbrev pub the_row : ℕ → ℕ → ℕ → ℤ → Row
the_row k v t d = record { key = k; value = v; time = t; diff = d }

unfoldable pub row : Reader Row
row s =
    then (ending (ascii ",") (number max64) s) (λ k.
    then (ending (ascii ",") (number max64) k.1) (λ v.
    then (ending (ascii ",") time v.1) (λ t.
    then (signed t.1) (λ d.
    some (the_row k.0 v.0 t.0 d.0, d.1)))))

unfoldable pub pair : Reader (ℕ × ℕ)
pair s =
    then (ending (ascii ",") (number max64) s) (λ k.
    then (time k.1) (λ t.
    some ((k.0, t.0), t.1)))

unfoldable pub many : {A : Type 0} → Reader A → ℕ → List ℕ → List A × List ℕ
many p zero s = ([], s)
many p (suc k) s = elim (p s) [ none ↦ ([], s) | some x ↦ let r = many p k x.1 in (x.0 ∷ r.0, r.1) ]

-- ---- a whole request
pub data Asked : Type 0 where
  bad : ℕ → Asked
  asked : Request → Asked

-- the line n is what was read, or is bad
abbrev pub at-line : {A : Type 0} → ℕ → Option (A × List ℕ) → (A → List ℕ → Asked) → Asked
at-line n none f = bad n
at-line n (some x) f = f x.0 x.1

-- end is line n, and nothing follows it
unfoldable pub ended : ℕ → Request → Option (List ℕ) → Asked
ended n q none = bad n
ended n q (some []) = asked q
ended n q (some (b ∷ s)) = bad (suc n)

pub record Sections : Type 0 where
  pub old : List Row
  pub new : List Row
  pub out : List Row
  pub pending : List (ℕ × ℕ)
  pub rest : List ℕ

unfoldable pub sections : List ℕ → Sections
sections s =
    let old = many (line (ascii "old=") row) most_lines s in
    let new = many (line (ascii "new=") row) most_lines old.1 in
    let out = many (line (ascii "out=") row) most_lines new.1 in
    let pend = many (line (ascii "pend=") pair) most_lines out.1 in
    record { old = old.0; new = new.0; out = out.0; pending = pend.0; rest = pend.1 }

abbrev pub request_from : ℕ → ℕ → List ℕ → List ℕ → List ℕ → Sections → Request
request_from m w l u h x =
    record { mode = m; width = w; lower = l; upper = u; held = h; old = x.old; new = x.new; out = x.out; pending = x.pending }

-- the number of the line after them
unfoldable pub line_after : Sections → ℕ
line_after x = 6 + length x.old + length x.new + length x.out + length x.pending

unfoldable pub body : ℕ → ℕ → List ℕ → List ℕ → List ℕ → List ℕ → Asked
body m w l u h s = let x = sections s in ended (line_after x) (request_from m w l u h x) (word (ascii "end=\n") x.rest)

unfoldable pub request : List ℕ → Asked
request s =
    at-line 1 (line (ascii "mode=") mode s) (λ m s₁.
    at-line 2 (line (ascii "width=") (number max64) s₁) (λ w s₂.
    at-line 3 (line (ascii "lower=") list s₂) (λ l s₃.
    at-line 4 (line (ascii "upper=") list s₃) (λ u s₄.
    at-line 5 (line (ascii "held=") list s₄) (λ h s₅.
    body m w l u h s₅)))))

unfoldable pub parse : List ℕ → Asked
parse s = let r = request s in cond (ltb most_bytes (length s)) (bad 0) r
