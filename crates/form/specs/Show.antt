-- "A tile is lower/upper/held time; a fix begins with its tile's place, from 0. After fix lines come pend=KEY,a:b lines. Statuses 11 to 19
-- print status and end; 20 prints status, line=N, end."
--
-- digits, decimal, signed_decimal: numbers
-- show_time, show_list, show_row, show_pair, show_line: what lines are made of
-- show_request: a request. show_answer, show_bad: an answer, a bad line
-- reply: what the program prints for the bytes of a request
use Rattle.std.specs.Prelude.{ℕ, zero, suc, ◌+◌, ◌/◌, ◌%◌, cond, List, [], ◌∷◌, ◌++◌, leb, ltb, eqb, ℤ, pos, negsuc}
use Prim.Native.String.{String}
use Rattle.grid.specs.Lists.{flat}
use Rattle.grid.specs.Times.{hi, lo}
use Rattle.grid.specs.Records.{Row}
use Rattle.rules.specs.Tiles.{Tile}
use Rattle.rules.specs.Call.{Request, Fix, Answer, call}
use Rattle.form.specs.Text.{ascii}
use Rattle.form.specs.Read.{bad, asked, parse}

-- the digits of n, at most k of them
unfoldable pub digits : ℕ → ℕ → List ℕ
digits zero n = []
digits (suc k) n =
    let more = digits k (n / 10) ++ ((48 + n % 10) ∷ []) in
    cond (ltb n 10) ((48 + n) ∷ []) more

unfoldable pub decimal : ℕ → List ℕ
decimal n = digits 20 n

unfoldable pub signed_decimal : ℤ → List ℕ
signed_decimal (pos n) = decimal n
signed_decimal (negsuc n) = 45 ∷ decimal (suc n)

unfoldable pub show_time : ℕ → List ℕ
show_time t = decimal (hi t) ++ ascii ":" ++ decimal (lo t)

-- each further time after a ";"
unfoldable pub show_more : List ℕ → List ℕ
show_more ts = flat (λ t. ascii ";" ++ show_time t) ts

unfoldable pub show_list : List ℕ → List ℕ
show_list [] = ascii "-"
show_list (t ∷ ts) = show_time t ++ show_more ts

unfoldable pub show_row : Row → List ℕ
show_row r = decimal r.key ++ ascii "," ++ decimal r.value ++ ascii "," ++ show_time r.time ++ ascii "," ++ signed_decimal r.diff

unfoldable pub show_pair : ℕ × ℕ → List ℕ
show_pair p = decimal p.0 ++ ascii "," ++ show_time p.1

unfoldable pub show_line : String → List ℕ → List ℕ
show_line name x = ascii name ++ x ++ ascii "\n"

-- ---- a request
unfoldable pub show_mode : ℕ → List ℕ
show_mode m = cond (eqb m 1) (ascii "count") (ascii "distinct")

unfoldable pub show_request : Request → List ℕ
show_request q =
    show_line "mode=" (show_mode q.mode)
    ++ show_line "width=" (decimal q.width)
    ++ show_line "lower=" (show_list q.lower)
    ++ show_line "upper=" (show_list q.upper)
    ++ show_line "held=" (show_list q.held)
    ++ flat (λ r. show_line "old=" (show_row r)) q.old
    ++ flat (λ r. show_line "new=" (show_row r)) q.new
    ++ flat (λ r. show_line "out=" (show_row r)) q.out
    ++ flat (λ p. show_line "pend=" (show_pair p)) q.pending
    ++ show_line "end=" []

-- ---- an answer
unfoldable pub show_tile : Tile → List ℕ
show_tile t = show_list t.lower ++ ascii "/" ++ show_list t.upper ++ ascii "/" ++ show_time t.held

unfoldable pub show_fix : Fix → List ℕ
show_fix f = decimal f.tile ++ ascii "," ++ show_row f.row

unfoldable pub show_results : Answer → List ℕ
show_results a =
    show_line "crossings=" (decimal a.crossings)
    ++ flat (λ t. show_line "tile=" (show_tile t)) a.tiles
    ++ flat (λ f. show_line "fix=" (show_fix f)) a.fixes
    ++ flat (λ p. show_line "pend=" (show_pair p)) a.pending
    ++ show_line "frontier=" (show_list a.frontier)

unfoldable pub show_answer : Answer → List ℕ
show_answer a =
    let more = show_results a in
    show_line "status=" (decimal a.status) ++ cond (leb a.status 2) more [] ++ show_line "end=" []

unfoldable pub show_bad : ℕ → List ℕ
show_bad n = show_line "status=" (decimal 20) ++ show_line "line=" (decimal n) ++ show_line "end=" []

unfoldable pub reply : List ℕ → List ℕ
reply s = elim (parse s) [ bad n ↦ show_bad n | asked q ↦ show_answer (call q) ]
