-- The code of a key: FNV-1a of 64 bits over the key's bytes.
use Rattle.std.specs.Prelude.{◌≡◌, ℕ, ◌*◌, ◌%◌, ◌^◌, List, [], ◌∷◌, bit_xor, Option, option_map, map, refl}
use Rattle.std.specs.Int.{w64, to_le_bytes, cast_unsigned}
use Rattle.call_patterns.specs.Keys.{Key, integer_key, atom_key, functor_key, GoalKeys}

-- for each byte exclusive or with the hash, and then the product modulo 2 ^ 64
unfoldable pub fnv : ℕ → List ℕ → ℕ
fnv hash [] = hash
fnv hash (b ∷ bs) = fnv (bit_xor hash b * 1099511628211 % 2 ^ 64) bs

-- the hash of some bytes, from where it begins
abbrev pub hash : List ℕ → ℕ
hash bytes = fnv 14695981039346656037 bytes

-- the hash of the one byte `a`, as published
pub check_value : hash (97 ∷ []) ≡ 0xaf63dc4c8601ec8c
unfolding fnv
check_value = refl

-- `I` and an integer's 8 bytes, the lowest first, in two's complement; `A` and an atom's text; `F`, one byte of arity, and a compound's name
abbrev pub key_bytes : Key → List ℕ
key_bytes (integer_key z) = 73 ∷ to_le_bytes w64 (cast_unsigned w64 z)
key_bytes (atom_key text) = 65 ∷ text
key_bytes (functor_key text arity) = 70 ∷ arity % 256 ∷ text

abbrev pub key_code : Key → ℕ
key_code key = hash (key_bytes key)

-- the code at each position, where there is a key
unfoldable pub codes : GoalKeys → List (Option ℕ)
codes keys = map (option_map key_code) keys
