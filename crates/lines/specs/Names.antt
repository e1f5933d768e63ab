-- The names and words of the calculator's lines, as bytes.
use Rattle.std.specs.Prelude.{ℕ, List, [], ◌∷◌}
use Rattle.text.specs.Text.{tab}

-- "its line end (byte 10)"
abbrev pub line_end : ℕ
line_end = 10

abbrev pub name_field : List ℕ
name_field = 102 ∷ 105 ∷ 101 ∷ 108 ∷ 100 ∷ []

abbrev pub name_ext : List ℕ
name_ext = 101 ∷ 120 ∷ 116 ∷ []

abbrev pub name_poly : List ℕ
name_poly = 112 ∷ 111 ∷ 108 ∷ 121 ∷ []

abbrev pub name_a : List ℕ
name_a = 97 ∷ []

abbrev pub name_b : List ℕ
name_b = 98 ∷ []

abbrev pub name_gcd : List ℕ
name_gcd = 103 ∷ 99 ∷ 100 ∷ []

abbrev pub name_div : List ℕ
name_div = 100 ∷ 105 ∷ 118 ∷ []

abbrev pub name_mul : List ℕ
name_mul = 109 ∷ 117 ∷ 108 ∷ []

abbrev pub name_inv : List ℕ
name_inv = 105 ∷ 110 ∷ 118 ∷ []

-- the words of answers, each behind a tab
abbrev pub said_ok : List ℕ
said_ok = tab ∷ 111 ∷ 107 ∷ []

abbrev pub said_rem : List ℕ
said_rem = tab ∷ 114 ∷ 101 ∷ 109 ∷ []

abbrev pub said_factor : List ℕ
said_factor = tab ∷ 102 ∷ 97 ∷ 99 ∷ 116 ∷ 111 ∷ 114 ∷ []

abbrev pub said_refused : List ℕ
said_refused = tab ∷ 114 ∷ 101 ∷ 102 ∷ 117 ∷ 115 ∷ 101 ∷ 100 ∷ []

abbrev pub said_missing : List ℕ
said_missing = tab ∷ 109 ∷ 105 ∷ 115 ∷ 115 ∷ 105 ∷ 110 ∷ 103 ∷ []

abbrev pub name_unreadable : List ℕ
name_unreadable = 117 ∷ 110 ∷ 114 ∷ 101 ∷ 97 ∷ 100 ∷ 97 ∷ 98 ∷ 108 ∷ 101 ∷ []
