-- Bytes of ASCII by their names (RFC 20).
use Rattle.std.specs.Prelude.{Bool, nat_le, ◌&&◌, ◌||◌, ℕ}

abbrev pub line_feed : ℕ
line_feed = 10

abbrev pub space : ℕ
space = 32

-- `#`
abbrev pub number_sign : ℕ
number_sign = 35

-- `%`
abbrev pub percent_sign : ℕ
percent_sign = 37

-- `/`
abbrev pub slash : ℕ
slash = 47

-- `0`
abbrev pub digit_zero : ℕ
digit_zero = 48

-- `1`
abbrev pub digit_one : ℕ
digit_one = 49

-- `:`
abbrev pub colon : ℕ
colon = 58

-- `?`
abbrev pub question_mark : ℕ
question_mark = 63

-- `_`
abbrev pub underscore : ℕ
underscore = 95

-- `~`
abbrev pub tilde : ℕ
tilde = 126

abbrev pub is_digit : ℕ → Bool
is_digit c = nat_le 48 c && nat_le c 57

abbrev pub is_capital : ℕ → Bool
is_capital c = nat_le 65 c && nat_le c 90

abbrev pub is_small : ℕ → Bool
is_small c = nat_le 97 c && nat_le c 122

abbrev pub is_letter : ℕ → Bool
is_letter c = is_capital c || is_small c

-- neither a space nor a control character
abbrev pub is_visible : ℕ → Bool
is_visible c = nat_le 33 c && nat_le c 126
