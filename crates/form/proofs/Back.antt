-- A printed request is read back as itself.
--
-- RowFits, TimesFit, Fits: the parts of a request are within their widths, and its lists and lines not too many
-- request_back: the request that is printed is the one that is read
use Prim.Native.Nat.{ℕ, zero, suc, ◌≤◌, ◌<◌, ◌^◌}
use Prim.Native.String.{String}
use native.Mathlib.Omega.{arith}
use mathlib.Core.Bool.{true, false, false≢true}
use mathlib.Core.List.{List, [], ◌∷◌, ◌++◌, append_assoc}
use mathlib.Core.Logic.{◌⊎◌, ⊎_elim}
use mathlib.Core.Option.{none, some}
use mathlib.Core.Path.{◌≡◌, refl, sym, ◌∙◌, ap}
use lib.Dec.{leb}
use lib.IntN.{ℤ, pos, negsuc}
use lib.ListN.{length, get_or}
use lib.Signed.{mag}
use borrow.Author.Tests.{leb-true, le-ltb, eq-eqb, ne_eqb}
use Rattle.grid.specs.Lists.{flat}
use Rattle.grid.specs.Times.{hi, lo, at}
use Rattle.grid.specs.Frontiers.{most_times}
use Rattle.grid.specs.Records.{Row}
use Rattle.grid.proofs.Tests.{and_l}
use Rattle.grid.proofs.Lists.{All, nil, cons, head, tail}
use Rattle.rules.specs.Call.{Request}
use Rattle.form.specs.Text.{ascii}
use Rattle.form.specs.Read.{most_bytes, most_lines, Reader, then, word, ending, digit, plain, number, max32, max63, max64, negated, signed, time, times, list, mode, line, row, pair, many, asked, ended, sections, line_after, body, request, parse}
use Rattle.form.specs.Show.{decimal, signed_decimal, show_time, show_more, show_list, show_row, show_pair, show_line, show_mode, show_request}
use Rattle.form.proofs.Digits.{Digit, Text, decimal_text, number-decimal}

pub record RowFits (r : Row) : Type 0 where
  pub key_fits : r.key < 2 ^ 64
  pub value_fits : r.value < 2 ^ 64
  pub time_fits : r.time < 2 ^ 64
  pub diff_fits : mag r.diff < 2 ^ 63

pub record PairFits (p : ℕ × ℕ) : Type 0 where
  pub key_fits : p.0 < 2 ^ 64
  pub time_fits : p.1 < 2 ^ 64

pub record TimesFit (ts : List ℕ) : Type 0 where
  pub each_fits : All (λ t. t < 2 ^ 64) ts
  pub few_times : length ts ≤ most_times

pub record LinesFit {A : Type 0} (P : A → Type 0) (xs : List A) : Type 0 where
  pub each_fits : All P xs
  pub few_lines : length xs ≤ most_lines

pub record Fits (q : Request) : Type 0 where
  pub mode_fits : (q.mode ≡ 1) ⊎ (q.mode ≡ 2)
  pub width_fits : q.width < 2 ^ 64
  pub lower_fits : TimesFit q.lower
  pub upper_fits : TimesFit q.upper
  pub held_fits : TimesFit q.held
  pub old_fits : LinesFit RowFits q.old
  pub new_fits : LinesFit RowFits q.new
  pub out_fits : LinesFit RowFits q.out
  pub pending_fits : LinesFit PairFits q.pending
  pub bytes_fit : length (show_request q) ≤ most_bytes

-- ---- words
pub word-append : (w r : List ℕ) → word w (w ++ r) ≡ some r
unfolding word
word-append [] r = refl
word-append (c ∷ w) r = rw (eq-eqb c c refl, word-append w r)

-- ---- numbers and times, before a byte that is no digit
record Reads {A : Type 0} (p : Reader A) (text : List ℕ) (x : A) : Type 0 where
  pub back : (r : List ℕ) → digit (get_or r 0 0) ≡ false → p (text ++ r) ≡ some (x, r)

number_reads : (most n : ℕ) → n ≤ most → n < 2 ^ 64 → Reads (number most) (decimal n) n
number_reads most n h k = record { back = λ r e. number-decimal most n r h k e }

ending_reads : {A : Type 0} {p : Reader A} {text : List ℕ} {x : A} (c : ℕ) (r : List ℕ) → digit c ≡ false → Reads p text x → ending (c ∷ []) p (text ++ (c ∷ r)) ≡ some (x, r)
unfolding ending
ending_reads c r e b = rw (b.back (c ∷ r) e, word-append (c ∷ []) r)

time_text : (t : ℕ) (r : List ℕ) → show_time t ++ r ≡ decimal (hi t) ++ (58 ∷ (decimal (lo t) ++ r))
unfolding show_time
time_text t r = append_assoc (decimal (hi t) ++ (58 ∷ [])) (decimal (lo t)) r ∙ append_assoc (decimal (hi t)) (58 ∷ []) (decimal (lo t) ++ r)

hi_small : (t : ℕ) → t < 2 ^ 64 → hi t ≤ max32
unfolding hi
hi_small t h = omega arith

lo_small : (t : ℕ) → lo t ≤ max32
unfolding lo
lo_small t = omega arith

at_parts : (t : ℕ) → at (hi t) (lo t) ≡ t
unfolding at hi lo
at_parts t = omega arith

time_reads : (t : ℕ) → t < 2 ^ 64 → Reads time (show_time t) t
unfolding time
time_reads t h =
    let a : hi t ≤ max32 = hi_small t h in
    let b : lo t ≤ max32 = lo_small t in
    record {
      back = λ r e.
          rw (time_text t r, ending_reads 58 (decimal (lo t) ++ r) refl (number_reads max32 (hi t) a (omega arith)), number-decimal max32 (lo t) r b (omega arith) e)
          (ap (λ n. some (n, r)) (at_parts t));
    }

-- ---- diffs
starts_digit : (l r : List ℕ) → All Digit l → plain l ≡ true → Digit (get_or (l ++ r) 0 0)
unfolding plain
starts_digit [] r d p = absurd (false≢true p)
starts_digit (b ∷ l) r d p = head d

decimal_starts : (n : ℕ) (r : List ℕ) → n < 2 ^ 64 → 48 ≤ get_or (decimal n ++ r) 0 0
decimal_starts n r h =
    let t : Text n (decimal n) = decimal_text n h in
    leb-true 48 _ (and_l (leb 48 (get_or (decimal n ++ r) 0 0)) _ (starts_digit (decimal n) r t.all t.right))

pub signed_plus : (s : List ℕ) → (get_or s 0 0 ≡ 45 → ⊥) → then (number max63 s) (λ n. some (pos n.0, n.1)) ≡ signed s
unfolding signed number plain
signed_plus [] h = refl
signed_plus (b ∷ s) h = rw (ne_eqb b 45 h)

signed_reads : (z : ℤ) → mag z < 2 ^ 63 → Reads signed (signed_decimal z) z
unfolding signed_decimal signed negated
signed_reads (pos n) h = record {
  back = λ r e.
      let k : 48 ≤ get_or (decimal n ++ r) 0 0 = decimal_starts n r (omega arith) in
      sym (signed_plus (decimal n ++ r) (λ q. omega arith)) ∙ (rw (number-decimal max63 n r (omega arith) (omega arith) e));
}
signed_reads (negsuc n) h = record { back = λ r e. rw (number-decimal (suc max63) (suc n) r (omega arith) (omega arith) e) }

-- ---- lists, before the line feed
more_text : (u : ℕ) (us r : List ℕ) → show_more (u ∷ us) ++ r ≡ 59 ∷ (show_time u ++ (show_more us ++ r))
unfolding show_more
more_text u us r = append_assoc ((59 ∷ []) ++ show_time u) (show_more us) r ∙ append_assoc (59 ∷ []) (show_time u) (show_more us ++ r)

times_back : (k t : ℕ) (ts r : List ℕ) → length ts < k → t < 2 ^ 64 → All (λ u. u < 2 ^ 64) ts → times k (show_time t ++ (show_more ts ++ (10 ∷ r))) ≡ some (t ∷ ts, 10 ∷ r)
unfolding times show_more word
times_back zero t ts r h f a = absurd (omega arith)
times_back (suc k) t [] r h f a = rw ((time_reads t f).back (10 ∷ r) refl)
times_back (suc k) t (u ∷ us) r h f a =
    rw (more_text u us (10 ∷ r), (time_reads t f).back (59 ∷ (show_time u ++ (show_more us ++ (10 ∷ r)))) refl, times_back k u us r (omega arith) (head a) (tail a))

no_minus : (s : List ℕ) → 48 ≤ get_or s 0 0 → word (45 ∷ []) s ≡ none
unfolding word
no_minus [] h = refl
no_minus (b ∷ s) h = rw (ne_eqb b 45 (λ e. omega arith))

pub list-times : (s : List ℕ) → word (45 ∷ []) s ≡ none → list s ≡ times most_times s
unfolding list
list-times s e = rw (e, list)

list_empty : (s : List ℕ) → list (45 ∷ s) ≡ some ([], s)
unfolding list word
list_empty s = refl

list_back : (ts r : List ℕ) → TimesFit ts → list (show_list ts ++ (10 ∷ r)) ≡ some (ts, 10 ∷ r)
unfolding show_list
list_back [] r f = list_empty (10 ∷ r)
list_back (t ∷ ts) r f =
    let a : t < 2 ^ 64 = head f.each_fits in
    let n : hi t ≤ max32 = hi_small t a in
    let few : suc (length ts) ≤ 16 = f.few_times in
    let s : 48 ≤ get_or (show_time t ++ (show_more ts ++ (10 ∷ r))) 0 0 =
    rw (time_text t (show_more ts ++ (10 ∷ r))) (decimal_starts (hi t) _ (omega arith)) in
    ap list (append_assoc (show_time t) (show_more ts) (10 ∷ r)) ∙ list-times _ (no_minus _ s) ∙ times_back 16 t ts r (omega arith) a (tail f.each_fits)

-- ---- records
row_text : (x : Row) (r : List ℕ) → show_row x ++ r ≡ decimal x.key ++ (44 ∷ (decimal x.value ++ (44 ∷ (show_time x.time ++ (44 ∷ (signed_decimal x.diff ++ r))))))
unfolding show_row
row_text x r = simp append_assoc refl

row_reads : (x : Row) → RowFits x → Reads row (show_row x) x
unfolding row
row_reads x f = record {
  back = λ r e.
      let k : x.key < 2 ^ 64 = f.key_fits in
      let v : x.value < 2 ^ 64 = f.value_fits in
      rw (
        row_text x r,
        ending_reads 44 (decimal x.value ++ (44 ∷ (show_time x.time ++ (44 ∷ (signed_decimal x.diff ++ r))))) refl (number_reads max64 x.key (omega arith) k),
        ending_reads 44 (show_time x.time ++ (44 ∷ (signed_decimal x.diff ++ r))) refl (number_reads max64 x.value (omega arith) v),
        ending_reads 44 (signed_decimal x.diff ++ r) refl (time_reads x.time f.time_fits),
        (signed_reads x.diff f.diff_fits).back r e,
      );
}

pair_text : (p : ℕ × ℕ) (r : List ℕ) → show_pair p ++ r ≡ decimal p.0 ++ (44 ∷ (show_time p.1 ++ r))
unfolding show_pair
pair_text p r = simp append_assoc refl

pair_reads : (p : ℕ × ℕ) → PairFits p → Reads pair (show_pair p) p
unfolding pair
pair_reads p f = record {
  back = λ r e.
      let k : p.0 < 2 ^ 64 = f.key_fits in
      rw (pair_text p r, ending_reads 44 (show_time p.1 ++ r) refl (number_reads max64 p.0 (omega arith) k), (time_reads p.1 f.time_fits).back r e);
}

-- ---- lines
line_text : (name : String) (x r : List ℕ) → show_line name x ++ r ≡ ascii name ++ (x ++ (10 ∷ r))
unfolding show_line
line_text name x r = append_assoc (ascii name ++ x) (10 ∷ []) r ∙ append_assoc (ascii name) x (10 ∷ r)

line_back : {A : Type 0} (name : String) (p : Reader A) (text : List ℕ) {x : A} (r : List ℕ) → p (text ++ (10 ∷ r)) ≡ some (x, 10 ∷ r) → line (ascii name) p (show_line name text ++ r) ≡ some (x, r)
unfolding line ending
line_back name p text r e = rw (line_text name text r, word-append (ascii name) (text ++ (10 ∷ r)), e, word-append (10 ∷ []) r)

line_none : {A : Type 0} (w : List ℕ) (p : Reader A) (s : List ℕ) → word w s ≡ none → line w p s ≡ none
unfolding line
line_none w p s e = rw e

record Line {A : Type 0} (p : Reader A) (text : List ℕ) (x : A) : Type 0 where
  pub back : (r : List ℕ) → p (text ++ r) ≡ some (x, r)

many_back : {A : Type 0} (p : Reader A) (show : A → List ℕ) (k : ℕ) (xs : List A) (r : List ℕ) → length xs ≤ k → All (λ x. Line p (show x) x) xs → p r ≡ none → many p k (flat show xs ++ r) ≡ (xs, r)
unfolding many
many_back p show zero [] r h a e = refl
many_back p show zero (x ∷ xs) r h a e = absurd (omega arith)
many_back p show (suc k) [] r h a e = rw (e, many)
many_back p show (suc k) (x ∷ xs) r h a e = rw (append_assoc (show x) (flat show xs) r, (head a).back (flat show xs ++ r), many, many_back p show k xs r (omega arith) (tail a) e)

rows_lines : (name : String) {xs : List Row} → All RowFits xs → All (λ x. Line (line (ascii name) row) (show_line name (show_row x)) x) xs
rows_lines name nil = nil
rows_lines name (cons {x = x} f a) = cons (record { back = λ r. line_back name row (show_row x) r ((row_reads x f).back (10 ∷ r) refl) }) (rows_lines name a)

pairs_lines : (name : String) {xs : List (ℕ × ℕ)} → All PairFits xs → All (λ x. Line (line (ascii name) pair) (show_line name (show_pair x)) x) xs
pairs_lines name nil = nil
pairs_lines name (cons {x = x} f a) = cons (record { back = λ r. line_back name pair (show_pair x) r ((pair_reads x f).back (10 ∷ r) refl) }) (pairs_lines name a)

-- a section whose lines do not begin with w, before what does not
skips : {A : Type 0} (w : List ℕ) (show : A → List ℕ) → ((x : A) (r : List ℕ) → word w (show x ++ r) ≡ none) → (xs : List A) (r : List ℕ) → word w r ≡ none → word w (flat show xs ++ r) ≡ none
skips w show n [] r e = e
skips w show n (x ∷ xs) r e = ap (word w) (append_assoc (show x) (flat show xs) r) ∙ n x (flat show xs ++ r)

-- ---- the whole
abbrev pub shown_rows : String → List Row → List ℕ
shown_rows name xs = flat (λ x. show_line name (show_row x)) xs

abbrev pub shown_pairs : List (ℕ × ℕ) → List ℕ
shown_pairs ps = flat (λ p. show_line "pend=" (show_pair p)) ps

abbrev pub shown_end : List ℕ
shown_end = show_line "end=" []

module _ (old new out : List Row) (pending : List (ℕ × ℕ)) where
  after_out : word (ascii "out=") (shown_pairs pending ++ shown_end) ≡ none
  unfolding word show_line
  after_out = skips (ascii "out=") (λ p. show_line "pend=" (show_pair p)) (λ x r. refl) pending shown_end refl

  after_new : word (ascii "new=") (shown_rows "out=" out ++ (shown_pairs pending ++ shown_end)) ≡ none
  unfolding word show_line
  after_new =
      skips (ascii "new=") (λ x. show_line "out=" (show_row x)) (λ x r. refl) out (shown_pairs pending ++ shown_end)
      (skips (ascii "new=") (λ p. show_line "pend=" (show_pair p)) (λ x r. refl) pending shown_end refl)

  after_old : word (ascii "old=") (shown_rows "new=" new ++ (shown_rows "out=" out ++ (shown_pairs pending ++ shown_end))) ≡ none
  unfolding word show_line
  after_old =
      skips (ascii "old=") (λ x. show_line "new=" (show_row x)) (λ x r. refl) new (shown_rows "out=" out ++ (shown_pairs pending ++ shown_end))
      (skips (ascii "old=") (λ x. show_line "out=" (show_row x)) (λ x r. refl) out (shown_pairs pending ++ shown_end)
      (skips (ascii "old=") (λ p. show_line "pend=" (show_pair p)) (λ x r. refl) pending shown_end refl))

  after_pending : word (ascii "pend=") shown_end ≡ none
  unfolding word show_line
  after_pending = refl

end_back : word (ascii "end=\n") shown_end ≡ some []
unfolding word show_line
end_back = refl

rows_back : (name : String) (xs : List Row) (r : List ℕ) → LinesFit RowFits xs → word (ascii name) r ≡ none → many (line (ascii name) row) most_lines (shown_rows name xs ++ r) ≡ (xs, r)
rows_back name xs r f e = many_back (line (ascii name) row) (λ x. show_line name (show_row x)) most_lines xs r f.few_lines (rows_lines name f.each_fits) (line_none (ascii name) row r e)

pairs_back : (ps : List (ℕ × ℕ)) (r : List ℕ) → LinesFit PairFits ps → word (ascii "pend=") r ≡ none → many (line (ascii "pend=") pair) most_lines (shown_pairs ps ++ r) ≡ (ps, r)
pairs_back ps r f e = many_back (line (ascii "pend=") pair) (λ p. show_line "pend=" (show_pair p)) most_lines ps r f.few_lines (pairs_lines "pend=" f.each_fits) (line_none (ascii "pend=") pair r e)

mode_back : (m : ℕ) (r : List ℕ) → (m ≡ 1) ⊎ (m ≡ 2) → mode (show_mode m ++ (10 ∷ r)) ≡ some (m, 10 ∷ r)
unfolding mode word show_mode
mode_back m r h = ⊎_elim (λ e. rw e) (λ e. rw e) h

unfoldable pub body_text : Request → List ℕ
body_text q = shown_rows "old=" q.old ++ (shown_rows "new=" q.new ++ (shown_rows "out=" q.out ++ (shown_pairs q.pending ++ shown_end)))

pub request_text : (q : Request) → show_request q ≡ show_line "mode=" (show_mode q.mode) ++ (show_line "width=" (decimal q.width) ++ (show_line "lower=" (show_list q.lower) ++ (show_line "upper=" (show_list q.upper) ++ (show_line "held=" (show_list q.held) ++ body_text q))))
unfolding show_request body_text
request_text q = simp append_assoc refl

module _ (q : Request) (f : Fits q) where
  body_back : body q.mode q.width q.lower q.upper q.held (body_text q) ≡ asked q
  unfolding body sections line_after ended body_text
  body_back = rw (
    rows_back "old=" q.old (shown_rows "new=" q.new ++ (shown_rows "out=" q.out ++ (shown_pairs q.pending ++ shown_end))) f.old_fits (after_old q.old q.new q.out q.pending),
    rows_back "new=" q.new (shown_rows "out=" q.out ++ (shown_pairs q.pending ++ shown_end)) f.new_fits (after_new q.old q.new q.out q.pending),
    rows_back "out=" q.out (shown_pairs q.pending ++ shown_end) f.out_fits (after_out q.old q.new q.out q.pending),
    pairs_back q.pending shown_end f.pending_fits (after_pending q.old q.new q.out q.pending),
    end_back,
  )

  lines_back : request (show_request q) ≡ asked q
  unfolding request
  lines_back =
      let w : q.width < 2 ^ 64 = f.width_fits in
      rw (
        request_text q,
        line_back "mode=" mode (show_mode q.mode) _ (mode_back q.mode _ f.mode_fits),
        line_back "width=" (number max64) (decimal q.width) _ (number-decimal max64 q.width _ (omega arith) w refl),
        line_back "lower=" list (show_list q.lower) _ (list_back q.lower _ f.lower_fits),
        line_back "upper=" list (show_list q.upper) _ (list_back q.upper _ f.upper_fits),
        line_back "held=" list (show_list q.held) _ (list_back q.held _ f.held_fits),
      )
      body_back

  pub request_back : parse (show_request q) ≡ asked q
  unfolding parse
  request_back = rw (le-ltb most_bytes (length (show_request q)) f.bytes_fit) lines_back
