-- The listing of "The lines", and requests that a line makes bad. proofs/Cases.antt computes them.
--
-- listing, reading: the listing's request, as text and as lists. printed: its answer
-- Damaged, damaged: texts, each with the line that is named
use Rattle.std.specs.Prelude.{ℕ, List, [], ◌∷◌, ◌++◌, pos, replicate}
use Prim.Native.String.{String}
use Rattle.grid.specs.Lists.{flat}
use Rattle.grid.specs.Times.{at}
use Rattle.rules.specs.Call.{Request}
use Rattle.form.specs.Text.{ascii}

abbrev pub listing : String
listing = "mode=count\nwidth=1\nlower=0:0\nupper=-\nheld=0:0\nnew=7,1,0:1,1\nnew=7,1,1:0,1\nend=\n"

unfoldable pub reading : Request
unfolding at
reading = record {
  mode = 1;
  width = 1;
  lower = at 0 0 ∷ [];
  upper = [];
  held = at 0 0 ∷ [];
  old = [];
  new = record { key = 7; value = 1; time = at 0 1; diff = pos 1 } ∷ record { key = 7; value = 1; time = at 1 0; diff = pos 1 } ∷ [];
  out = [];
  pending = [];
}

abbrev pub printed : String
printed =
    "status=0\ncrossings=3\ntile=0:0/-/0:0\nfix=0,7,9223372036854775809,0:1,1\nfix=0,7,9223372036854775809,1:0,1\nfix=0,7,9223372036854775809,1:1,-2\nfix=0,7,9223372036854775810,1:1,1\nfrontier=-\nend=\n"

pub record Damaged : Type 0 where
  pub text : List ℕ
  pub line : ℕ

abbrev pub top : String
top = "mode=count\nwidth=1\nlower=0:0\nupper=-\nheld=0:0\n"

abbrev names : ℕ → String → Damaged
names n s = record { text = ascii s; line = n }

-- after the first five lines
abbrev later : ℕ → String → Damaged
later n s = record { text = ascii top ++ ascii s; line = n }

abbrev pub damaged : List Damaged
damaged =
    names 1 ""  -- nothing
    ∷ names 1 "mode=count"  -- no line feed
    ∷ names 1 "mode=Count\n"
    ∷ names 1 "mode=count\r\n"
    ∷ names 2 "mode=count\n"  -- missing
    ∷ names 2 "mode=count\nwidth=01\n"  -- leading zero
    ∷ names 2 "mode=count\nwidth=18446744073709551616\n"  -- 2^64
    ∷ names 3 "mode=count\nwidth=1\nlower=\n"  -- the empty list is "-"
    ∷ names 3 "mode=count\nwidth=1\nlower=0:0;\n"
    ∷ names 3 "mode=count\nwidth=1\nlower=0:4294967296\n"  -- 2^32
    ∷ names 4 "mode=count\nwidth=1\nlower=0:0\nupper=0:0;0:0;0:0;0:0;0:0;0:0;0:0;0:0;0:0;0:0;0:0;0:0;0:0;0:0;0:0;0:0;0:0\n"  -- 17 times
    ∷ later 6 ""  -- no end
    ∷ later 6 "new=7,1,0:1,-0\nend=\n"  -- minus zero
    ∷ later 6 "new=7,1,0:1,9223372036854775808\nend=\n"  -- 2^63
    ∷ later 7 "new=7,1,0:1,1\nold=7,1,0:1,1\nend=\n"  -- order
    ∷ later 7 "new=7,1,0:1,1\nend="  -- no line feed
    ∷ later 8 "new=7,1,0:1,1\nend=\n\n"  -- something after end
    ∷ later 6 "end=x\n"
    ∷ record { text = ascii top ++ flat {A = ℕ} (λ x. ascii "old=1,1,0:0,1\n") (replicate 513 0) ++ ascii "end=\n"; line = 518 }  -- a 513th line of a kind
    ∷ record { text = replicate 65537 10; line = 0 }  -- a byte too many
    ∷ []
