-- Parts of a list: a front and what is lent behind it.
use Rattle.std.proofs.Common.{◌≡◌, ℕ, ◌+◌, ◌-◌, ◌≤◌, List, ◌++◌, length, take, drop, sym, ◌∙◌, arith}
use Rattle.std.proofs.lemmas.List.{take-append-drop, take-take, drop-take}

pub take_add : {X : Type 0} (f k : ℕ) (xs : List X) → take (f + k) xs ≡ take f xs ++ take k (drop f xs)
take_add f k xs =
    let below : f ≤ f + k = omega arith in
    sym (take-append-drop f (take (f + k) xs)) ∙ rw (take-take f (f + k) xs below, drop-take)

-- what `&mut buffer[f..]` and `&bytes[f..]` lend
abbrev pub lent : {X : Type 0} → ℕ → List X → List X
lent f buffer = take (length buffer - f) (drop f buffer)
