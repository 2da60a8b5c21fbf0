-- The laws of key codes, from those of fields.
use Rattle.std.proofs.Common.{◌≡◌, ℕ, ◌≤◌, List, [], ◌∷◌, ◌++◌, length, Ok, Err, refl, ap, ◌∙◌, subst}
use Rattle.layout.specs.Numbers.{Bytes, EachByte}
use Rattle.layout.specs.Fields.{fields, Held}
use Rattle.layout.specs.KeyCodes.{key_code, key_code_bytes, KeyCodesStand}
use Rattle.layout.proofs.Numbered.{bytes_front}
use Rattle.layout.proofs.Fielded.{Whole, fields_back, fields_written, fields_sized, fields_reads, fields_same, fields_there}

pub key_code_sized : (ns : List ℕ) → Held key_code ns → length (key_code_bytes ns) ≡ 28
key_code_sized ns h = fields_sized key_code ns h

pub key_code_back : (ns : List ℕ) (rest : Bytes) → Held key_code ns → fields key_code (key_code_bytes ns ++ rest) ≡ Ok (ns, rest)
key_code_back ns rest h = fields_back key_code ns (key_code_bytes ns) rest (fields_written key_code ns h)

all_kept : Whole key_code
all_kept = ((λ n. refl), ((λ n. refl), ((λ n. refl), ((λ n. refl), ((λ n. refl), ((λ n. refl), ((λ n. refl), tt)))))))

pub key_code_carried : (xs rest : Bytes) (ns : List ℕ) → EachByte xs → fields key_code xs ≡ Ok (ns, rest) → xs ≡ key_code_bytes ns ++ rest
key_code_carried xs rest ns h e =
    let (bs, split, is) = fields_reads key_code ns xs rest e in
    split ∙ ap (λ (t : Bytes). t ++ rest) (fields_same key_code ns bs all_kept (bytes_front bs rest (subst EachByte split h)) is)

example : key_code_bytes (1 ∷ 2 ∷ 3 ∷ 4 ∷ 5 ∷ 6 ∷ 64 ∷ []) ≡ 1 ∷ 0 ∷ 0 ∷ 0 ∷ 2 ∷ 0 ∷ 0 ∷ 0 ∷ 3 ∷ 0 ∷ 0 ∷ 0 ∷ 4 ∷ 0 ∷ 0 ∷ 0 ∷ 5 ∷ 0 ∷ 0 ∷ 0 ∷ 6 ∷ 0 ∷ 0 ∷ 0 ∷ 64 ∷ 0 ∷ 0 ∷ 0 ∷ []
example = refl

pub key_codes_stand_lem : KeyCodesStand
key_codes_stand_lem = record { sized = key_code_sized; back = key_code_back; carried = key_code_carried; example = example }

pub key_code_there : (xs : Bytes) (q : ℕ) → 28 ≤ length xs → fields key_code xs ≡ Err q → ⊥
key_code_there xs q h e =
    fields_there key_code xs q ((λ n. refl), ((λ n. refl), ((λ n. refl), ((λ n. refl), ((λ n. refl), ((λ n. refl), ((λ n. refl), tt))))))) h e
