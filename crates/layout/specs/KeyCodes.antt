-- A film key code: seven integers.
use Rattle.std.specs.Prelude.{◌≡◌, ℕ, List, [], ◌∷◌, ◌++◌, length, Ok}
use Rattle.layout.specs.Numbers.{Bytes, EachByte}
use Rattle.layout.specs.Fields.{Field, i32, fields, field_bytes, Held}

-- film manufacturer code, film type, film roll prefix, count, perforation offset, perforations per frame, perforations per count
abbrev pub key_code : List Field
key_code = i32 ∷ i32 ∷ i32 ∷ i32 ∷ i32 ∷ i32 ∷ i32 ∷ []

-- its seven numbers, as their bits, and its bytes
abbrev pub key_code_bytes : List ℕ → Bytes
key_code_bytes = field_bytes key_code

pub record KeyCodesStand : Type 0 where
  -- a key code has 28 bytes
  pub sized : (ns : List ℕ) → Held key_code ns → length (key_code_bytes ns) ≡ 28
  -- written, it reads back as it was, whatever stands behind it
  pub back : (ns : List ℕ) (rest : Bytes) → Held key_code ns → fields key_code (key_code_bytes ns ++ rest) ≡ Ok (ns, rest)
  -- bytes that are read as a key code are written again as they were
  pub carried : (xs rest : Bytes) (ns : List ℕ) → EachByte xs → fields key_code xs ≡ Ok (ns, rest) → xs ≡ key_code_bytes ns ++ rest
  -- the numbers 1, 2, 3, 4, 5, 6 and 64
  pub example :
      key_code_bytes (1 ∷ 2 ∷ 3 ∷ 4 ∷ 5 ∷ 6 ∷ 64 ∷ [])
      ≡ 1 ∷ 0 ∷ 0 ∷ 0 ∷ 2 ∷ 0 ∷ 0 ∷ 0 ∷ 3 ∷ 0 ∷ 0 ∷ 0 ∷ 4 ∷ 0 ∷ 0 ∷ 0 ∷ 5 ∷ 0 ∷ 0 ∷ 0 ∷ 6 ∷ 0 ∷ 0 ∷ 0 ∷ 64 ∷ 0 ∷ 0 ∷ 0 ∷ []
