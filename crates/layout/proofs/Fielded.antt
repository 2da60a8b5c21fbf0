-- The laws of numbers of fixed width.
use Rattle.std.proofs.Common.{◌≡◌, ℕ, zero, suc, ◌≤◌, Bool, true, List, [], ◌∷◌, ◌++◌, length, take, drop, replicate, Some, Ok, Err, sym, refl, ap, ◌∙◌, subst, inl, inr, append_assoc, arith, length-append, length-drop, drop-drop}
use Rattle.layout.specs.Numbers.{Bytes, EachByte, whole, low_first}
use Rattle.layout.specs.Questions.{FirstNo, Answer, next, asked, part}
use Rattle.layout.specs.Fields.{Field, i32, integers, fields, field_bytes, Numbers, Held, field_questions, numbers_at, size, word, words, FieldsStand}
use Rattle.layout.proofs.Numbered.{length-low_first, bytes_low_first, whole-low_first, low_first-whole, bytes_append, bytes_front, bytes_behind}
use Rattle.layout.proofs.Reading.{Sees, sees_next, sees_asked, sees_last, Exactly, part_sees, part_back, Asks, asks_next, asks_asked, part_asks}

pub fields_sees : (fs : List Field) (xs : Bytes) → Sees (Numbers fs) xs (fields fs xs)
unfolding Numbers
fields_sees [] xs = ([], refl, refl)
fields_sees (f ∷ fs) xs =
    sees_next (Exactly f.width) (Numbers (f ∷ fs)) xs (part f.width xs) _ (part_sees f.width xs) (λ b bs r e s.
    sees_asked (Numbers (f ∷ fs)) xs (f.admits (whole b)) f.question (b, r) _ (λ yes'.
    sees_last (Numbers fs) (Numbers (f ∷ fs)) xs bs r (fields fs r) (λ ns. f.keeps (whole b) ∷ ns) e (fields_sees fs r) (λ ns cs is.
    (b, cs, ap (λ (t : Bytes). t ++ cs) s.0, s.1, yes', refl, is))))

pub fields_back : (fs : List Field) (ns : List ℕ) (xs rest : Bytes) → Numbers fs ns xs → fields fs (xs ++ rest) ≡ Ok (ns, rest)
unfolding Numbers
fields_back [] [] xs rest is = ap (λ (t : Bytes). Ok ([], t ++ rest)) is
fields_back [] (n ∷ ns) xs rest is = absurd is
fields_back (f ∷ fs) [] xs rest is = absurd is
fields_back (f ∷ fs) (n ∷ ns) xs rest (bs, more, e, long, ok, it, is) =
    ap (λ (t : Bytes). fields (f ∷ fs) t) (ap (λ (t : Bytes). t ++ rest) e ∙ append_assoc bs more rest)
    ∙ ap (λ (a : Answer Bytes). next a (λ bs r. next (asked (f.admits (whole bs)) f.question (bs, r)) (λ bs r.
    next (fields fs r) (λ ns r. Ok (f.keeps (whole bs) ∷ ns, r))))) (part_back f.width bs (more ++ rest) long)
    ∙ ap (λ (t : Bool). next (asked t f.question (bs, more ++ rest)) (λ bs r.
    next (fields fs r) (λ ns r. Ok (f.keeps (whole bs) ∷ ns, r)))) ok
    ∙ ap (λ (a : Answer (List ℕ)). next a (λ ns r. Ok (f.keeps (whole bs) ∷ ns, r))) (fields_back fs ns more rest is)
    ∙ ap (λ (m : ℕ). Ok (m ∷ ns, rest)) (sym it)

pub fields_written : (fs : List Field) (ns : List ℕ) → Held fs ns → Numbers fs ns (field_bytes fs ns)
unfolding Numbers Held
fields_written [] [] h = refl
fields_written [] (n ∷ ns) h = absurd h
fields_written (f ∷ fs) [] h = absurd h
fields_written (f ∷ fs) (n ∷ ns) (small, ok, same, h) =
    let e : whole (low_first f.width n) ≡ n = whole-low_first f.width n small in
    (low_first f.width n, field_bytes fs ns, refl, length-low_first f.width n, ap f.admits e ∙ ok, sym same ∙ ap f.keeps (sym e), fields_written fs ns h)

pub fields_asks : (fs : List Field) (xs : Bytes) → Asks (field_questions fs xs) (numbers_at fs xs) (drop (size fs) xs) (fields fs xs)
unfolding field_questions numbers_at
fields_asks [] xs = (tt, refl, refl)
fields_asks (f ∷ fs) xs =
    let w : ℕ = f.width in
    let b : Bytes = take w xs in
    let r : Bytes = drop w xs in
    subst (λ (z : Bytes). Asks (field_questions (f ∷ fs) xs) (numbers_at (f ∷ fs) xs) z (fields (f ∷ fs) xs)) (drop-drop (size fs) w xs)
    (asks_next ((6, w ≤ length xs) ∷ []) ((f.question, f.admits (whole b) ≡ true) ∷ field_questions fs r) b (numbers_at (f ∷ fs) xs) r (drop (size fs) r) (part w xs) _ (part_asks w xs)
    (asks_next ((f.question, f.admits (whole b) ≡ true) ∷ []) (field_questions fs r) b (numbers_at (f ∷ fs) xs) r (drop (size fs) r) (asked (f.admits (whole b)) f.question (b, r)) _
    (asks_asked (f.admits (whole b) ≡ true) (f.admits (whole b)) f.question b r (λ e. e) (λ e. e))
    (ended (fields fs r) (fields_asks fs r))))
  where
    ended : (a : Answer (List ℕ)) → Asks (field_questions fs (drop f.width xs)) (numbers_at fs (drop f.width xs)) (drop (size fs) (drop f.width xs)) a →
        Asks (field_questions fs (drop f.width xs)) (f.keeps (whole (take f.width xs)) ∷ numbers_at fs (drop f.width xs)) (drop (size fs) (drop f.width xs))
        (next a (λ ns r. Ok (f.keeps (whole (take f.width xs)) ∷ ns, r)))
    ended (Ok p) s = (s.0, ap (λ (ns : List ℕ). f.keeps (whole (take f.width xs)) ∷ ns) s.1, s.2)
    ended (Err q) s = s

pub fields_sized : (fs : List Field) (ns : List ℕ) → Held fs ns → length (field_bytes fs ns) ≡ size fs
unfolding Held
fields_sized [] ns h = refl
fields_sized (f ∷ fs) [] h = absurd h
fields_sized (f ∷ fs) (n ∷ ns) h =
    length-append (low_first f.width n) (field_bytes fs ns)
    ∙ omega (arith, length-low_first f.width n, fields_sized fs ns h.3)

pub fields_bytes : (fs : List Field) (ns : List ℕ) → EachByte (field_bytes fs ns)
fields_bytes [] ns = refl
fields_bytes (f ∷ fs) [] = refl
fields_bytes (f ∷ fs) (n ∷ ns) = bytes_append (low_first f.width n) (field_bytes fs ns) (bytes_low_first f.width n) (fields_bytes fs ns)

-- fields that keep all of their numbers
abbrev pub Whole : List Field → Type 0
Whole [] = Unit {0}
Whole (f ∷ fs) = ((n : ℕ) → f.keeps n ≡ n) × Whole fs

-- bytes that are the numbers of such fields are those that are written for them
pub fields_same : (fs : List Field) (ns : List ℕ) (xs : Bytes) → Whole fs → EachByte xs → Numbers fs ns xs → xs ≡ field_bytes fs ns
unfolding Numbers
fields_same [] [] xs w h is = is
fields_same [] (n ∷ ns) xs w h is = absurd is
fields_same (f ∷ fs) [] xs w h is = absurd is
fields_same (f ∷ fs) (n ∷ ns) xs w h (bs, rest, e, long, ok, it, is) =
    let all : EachByte (bs ++ rest) = subst EachByte e h in
    let whole_is : whole bs ≡ n = sym (it ∙ w.0 (whole bs)) in
    let front : bs ≡ low_first f.width n = sym (low_first-whole bs (bytes_front bs rest all)) ∙ ap (λ k. low_first k (whole bs)) long ∙ ap (low_first f.width) whole_is in
    e ∙ ap (λ (t : Bytes). t ++ rest) front ∙ ap (λ (t : Bytes). low_first f.width n ++ t) (fields_same fs ns rest w.1 (bytes_behind bs rest all) is)

pub fields_reads : (fs : List Field) (ns : List ℕ) (xs rest : Bytes) → fields fs xs ≡ Ok (ns, rest) → (bs : Bytes) × (xs ≡ bs ++ rest) × Numbers fs ns bs
fields_reads fs ns xs rest e = subst (Sees (Numbers fs) xs) e (fields_sees fs xs)

pub fields_refuse : (fs : List Field) (xs : Bytes) (q : ℕ) → fields fs xs ≡ Err q → FirstNo (field_questions fs xs) (Some q)
fields_refuse fs xs q e = subst (Asks (field_questions fs xs) (numbers_at fs xs) (drop (size fs) xs)) e (fields_asks fs xs)

pub words_are : (keeps : ℕ → ℕ) (k : ℕ) (xs : Bytes) → fields (replicate k (word keeps)) xs ≡ words keeps k xs
words_are keeps zero xs = refl
words_are keeps (suc k) xs = λ i. next (part 4 xs) (λ bs r. next (words_are keeps k r i) (λ ns r. Ok (keeps (whole bs) ∷ ns, r)))

pub integers_are : (k : ℕ) (xs : Bytes) → fields (replicate k i32) xs ≡ integers k xs
integers_are zero xs = refl
integers_are (suc k) xs = λ i. next (part 4 xs) (λ bs r. next (integers_are k r i) (λ ns r. Ok (whole bs ∷ ns, r)))

pub fields_stand_lem : FieldsStand
fields_stand_lem = record {
  reads = fields_reads;
  read = fields_back;
  integers_are = integers_are;
  words_are = words_are;
  asks = fields_refuse;
  written = fields_written;
  sized = fields_sized;
  bytes = fields_bytes;
}

-- fields that admit every number
abbrev pub Free : List Field → Type 0
Free [] = Unit {0}
Free (f ∷ fs) = ((n : ℕ) → f.admits n ≡ true) × Free fs

answered : (fs : List Field) (xs : Bytes) (q : ℕ) → Free fs → size fs ≤ length xs → FirstNo (field_questions fs xs) (Some q) → ⊥
unfolding field_questions
answered [] xs q w h f = f
answered (f ∷ fs) xs q w h (inl short) = short.0 (omega arith)
answered (f ∷ fs) xs q w h (inr (there, inl refused)) = refused.0 (w.0 (whole (take f.width xs)))
answered (f ∷ fs) xs q w h (inr (there, inr (admitted, rest))) =
    answered fs (drop f.width xs) q w.1 (omega (arith, length-drop f.width xs)) rest

-- where all their bytes are there, such fields are read
pub fields_there : (fs : List Field) (xs : Bytes) (q : ℕ) → Free fs → size fs ≤ length xs → fields fs xs ≡ Err q → ⊥
fields_there fs xs q w h e = answered fs xs q w h (fields_refuse fs xs q e)
