-- What is read next in a source is what stands there; and a record is read back.
use Rattle.std.proofs.Common.{◌≡◌, ℕ, zero, suc, ◌+◌, ◌/◌, ◌%◌, ◌<◌, ◌≤◌, Bool, true, false, cond, eqb, leb, [], ◌∷◌, ◌++◌, length, take, drop, Some, None, Option, sym, refl, ap, ◌∙◌, subst, ap₂, inl, inr, append_assoc, arith, length-append}
use Rattle.std.proofs.lemmas.Bool.{leb-true, leb-false, eqb-true, eqb-false, le-leb, lt-leb, ne_eqb}
use Rattle.std.proofs.lemmas.List.{take-append-drop, length-take-le, take_at, drop_at}
use Rattle.layout.specs.Numbers.{Bytes, EachByte, low_first}
use Rattle.layout.specs.Names.{NonZero}
use Rattle.layout.specs.Items.{Took, took, too_long, ran_out, in_front, zero_end, Head, head, stuck, size_head, after_kind, after_name, after_start, read_head, Item, ended, item, broken, stop_number, four_whole, value_item, on_head, read_item, NamedBy, StopsWith, Reads, RunsOut, in_name, in_kind, in_size, in_value, Decides, long_name, no_kind, long_kind, negative, too_large, laid, ItemsRead}
use Rattle.layout.specs.Names.{Named}
use Rattle.layout.specs.Values.{Form, kind_of, bytes_of}
use Rattle.layout.specs.Records.{record_bytes}
use Rattle.layout.specs.Laws.{RecordsStand}
use Rattle.layout.proofs.Numbered.{bytes_front, bytes_behind, rest_bytes}
use Rattle.layout.proofs.Forms.{good_kind}

stops : (s : Option ℕ) → StopsWith s (stop_number s)
stops None = inl (refl, refl)
stops (Some d) = inr (d, refl, refl)

stops_one : (s : Option ℕ) (q : ℕ) → StopsWith s q → q ≡ stop_number s
stops_one s q (inl (e, h)) = h ∙ ap stop_number (sym e)
stops_one s q (inr (d, e, h)) = h ∙ ap stop_number (sym e)

-- ---- bytes up to a 00

pub Ends : ℕ → Bytes → Took → Type 0
Ends k bs (took f rest) = (bs ≡ f ++ 0 ∷ rest) × NonZero f × (length f ≤ k)
Ends k bs (too_long rest) = (f : Bytes) × (bs ≡ f ++ rest) × NonZero f × (length f ≡ suc k)
Ends k bs ran_out = NonZero bs × (length bs ≤ k)

front_ends : (k b : ℕ) (bs : Bytes) → (b ≡ 0 → ⊥) → (o : Took) → Ends k bs o → Ends (suc k) (b ∷ bs) (in_front b o)
unfolding Ends
front_ends k b bs h (took f rest) e = (ap (λ (x : Bytes). b ∷ x) e.0, (h, e.1), omega arith)
front_ends k b bs h (too_long rest) e = (b ∷ e.0, ap (λ (x : Bytes). b ∷ x) e.1, (h, e.2), ap suc e.3)
front_ends k b bs h ran_out e = ((h, e.0), omega arith)

by_cond : {A : Type 0} (P : A → Type 0) (t : Bool) (x y : A) → (t ≡ true → P x) → (t ≡ false → P y) → P (cond t x y)
by_cond P true x y f g = f refl
by_cond P false x y f g = g refl

ends : (k : ℕ) (bs : Bytes) → Ends k bs (zero_end k bs)
unfolding Ends zero_end
ends zero [] = (tt, omega arith)
ends zero (b ∷ bs) =
    by_cond (Ends zero (b ∷ bs)) (eqb b 0) (took [] bs) (too_long bs)
    (λ e. (ap (λ (x : ℕ). x ∷ bs) (eqb-true b 0 e), tt, omega arith))
    (λ e. (b ∷ [], refl, (eqb-false b 0 e, tt), refl))
ends (suc k) [] = (tt, omega arith)
ends (suc k) (b ∷ bs) =
    by_cond (Ends (suc k) (b ∷ bs)) (eqb b 0) (took [] bs) (in_front b (zero_end k bs))
    (λ e. (ap (λ (x : ℕ). x ∷ bs) (eqb-true b 0 e), tt, omega arith))
    (λ e. front_ends k b bs (eqb-false b 0 e) (zero_end k bs) (ends k bs))

-- ---- what is read stands there

value_reads : (most : ℕ) (s : Option ℕ) (bs n k : Bytes) (a b c d : ℕ) (rest : Bytes) → bs ≡ laid n k a b c d rest → NamedBy most n → NamedBy most k
    → d < 128 → four_whole a b c d ≤ 40960 → Reads most s bs (value_item s n k (four_whole a b c d) rest)
value_reads most s bs n k a b c d rest e p q l w =
    let m : ℕ = four_whole a b c d in
    by_cond (Reads most s bs) (leb m (length rest)) (item n k (take m rest) (drop m rest)) (broken (stop_number s) [])
    (λ t. let j : m ≤ length rest = leb-true m (length rest) t in
    let y : length (take m rest) ≡ m = length-take-le m rest j in
    (a, b, c, d, e ∙ ap (laid n k a b c d) (sym (take-append-drop m rest)), p, q, l, sym y, rw y w))
    (λ t. inl (in_value n k rest a b c d e p q l w (leb-false m (length rest) t), stops s, refl))

kind_reads : (most : ℕ) (s : Option ℕ) (bs n k rest : Bytes) → bs ≡ n ++ 0 ∷ (k ++ 0 ∷ rest) → NamedBy most n → NamedBy most k
    → Reads most s bs (on_head s (after_kind s n k rest))
unfolding after_kind
kind_reads most s bs n k [] e p q = inl (in_size n k [] e p q (omega arith), stops s, refl)
kind_reads most s bs n k (a ∷ []) e p q = inl (in_size n k (a ∷ []) e p q (omega arith), stops s, refl)
kind_reads most s bs n k (a ∷ (b ∷ [])) e p q = inl (in_size n k (a ∷ (b ∷ [])) e p q (omega arith), stops s, refl)
kind_reads most s bs n k (a ∷ (b ∷ (c ∷ []))) e p q = inl (in_size n k (a ∷ (b ∷ (c ∷ []))) e p q (omega arith), stops s, refl)
kind_reads most s bs n k (a ∷ (b ∷ (c ∷ (d ∷ rest)))) e p q =
    by_cond (λ (h : Head). Reads most s bs (on_head s h)) (leb 128 d) (stuck 4 rest)
    (cond (leb (four_whole a b c d) 40960) (head n k (four_whole a b c d) rest) (stuck 5 rest))
    (λ t. inr (negative n k a b c d e p q (leb-true 128 d t)))
    (λ t. by_cond (λ (h : Head). Reads most s bs (on_head s h)) (leb (four_whole a b c d) 40960) (head n k (four_whole a b c d) rest) (stuck 5 rest)
    (λ u. value_reads most s bs n k a b c d rest e p q (leb-false 128 d t) (leb-true (four_whole a b c d) 40960 u))
    (λ u. inr (too_large n k a b c d e p q (leb-false 128 d t) (leb-false (four_whole a b c d) 40960 u))))

name_reads : (most : ℕ) (s : Option ℕ) (bs n rest : Bytes) → bs ≡ n ++ 0 ∷ rest → NamedBy most n → (o : Took) → Ends most rest o
    → Reads most s bs (on_head s (after_name s n o))
unfolding after_name Ends
name_reads most s bs n rest e p ran_out h = inl (in_kind n rest e p h.0 h.1, stops s, refl)
name_reads most s bs n rest e p (too_long x) h = inr (long_kind n h.0 (e ∙ ap (λ (y : Bytes). n ++ 0 ∷ y) h.1) p h.2 h.3)
name_reads most s bs n rest e p (took [] x) h = inr (no_kind n (e ∙ ap (λ (y : Bytes). n ++ 0 ∷ y) h.0) p)
name_reads most s bs n rest e p (took (c ∷ k) x) h =
    kind_reads most s bs n (c ∷ k) x (e ∙ ap (λ (y : Bytes). n ++ 0 ∷ y) h.0) p (omega arith, h.2, h.1)

start_reads : (most : ℕ) (s : Option ℕ) (bs : Bytes) (o : Took) → Ends most bs o → Reads most s bs (on_head s (after_start most s o))
unfolding after_start Ends
start_reads most s bs ran_out h = inl (in_name h.0 h.1, stops s, refl)
start_reads most s bs (too_long x) h = inr (long_name h.0 h.1 h.2 h.3)
start_reads most s bs (took [] x) h = h.0
start_reads most s bs (took (b ∷ n) x) h =
    name_reads most s bs (b ∷ n) x h.0 (omega arith, h.2, h.1) (zero_end most x) (ends most x)

pub reads : (most : ℕ) (s : Option ℕ) (bs : Bytes) → Reads most s bs (read_item most s bs)
unfolding read_item read_head
reads most s bs = start_reads most s bs (zero_end most bs) (ends most bs)

-- ---- and back

pub zero_front : (k : ℕ) (n rest : Bytes) → NonZero n → length n ≤ k → zero_end k (n ++ 0 ∷ rest) ≡ took n rest
unfolding zero_end
zero_front zero [] rest h l = refl
zero_front (suc k) [] rest h l = refl
zero_front zero (b ∷ n) rest h l = absurd (omega arith)
zero_front (suc k) (b ∷ n) rest h l =
    let z : eqb b 0 ≡ false = ne_eqb b 0 h.0 in
    rw z (ap (in_front b) (zero_front k n rest h.1 (omega arith)))

kind_back : (most : ℕ) (s : Option ℕ) (n k rest : Bytes) → NamedBy most k → after_name s n (zero_end most (k ++ 0 ∷ rest)) ≡ after_kind s n k rest
unfolding after_name
kind_back most s n [] rest h = absurd (omega arith)
kind_back most s n (c ∷ k) rest h = rw (zero_front most (c ∷ k) rest h.2 h.1)

name_back : (most : ℕ) (s : Option ℕ) (n rest : Bytes) → NamedBy most n → read_head most s (n ++ 0 ∷ rest) ≡ after_name s n (zero_end most rest)
unfolding after_start read_head
name_back most s [] rest h = absurd (omega arith)
name_back most s (b ∷ n) rest h = rw (zero_front most (b ∷ n) rest h.2 h.1)

laid_head : (most : ℕ) (s : Option ℕ) (n k : Bytes) (a b c d : ℕ) (rest : Bytes) → NamedBy most n → NamedBy most k
    → read_head most s (laid n k a b c d rest) ≡ size_head n k d (four_whole a b c d) rest
unfolding after_kind
laid_head most s n k a b c d rest p q =
    name_back most s n (k ++ 0 ∷ (a ∷ (b ∷ (c ∷ (d ∷ rest))))) p ∙ kind_back most s n k (a ∷ (b ∷ (c ∷ (d ∷ rest)))) q

laid_read : (most : ℕ) (s : Option ℕ) (n k : Bytes) (a b c d : ℕ) (rest : Bytes) → NamedBy most n → NamedBy most k
    → read_item most s (laid n k a b c d rest) ≡ on_head s (size_head n k d (four_whole a b c d) rest)
unfolding read_item
laid_read most s n k a b c d rest p q = ap (on_head s) (laid_head most s n k a b c d rest p q)

pub item_back : (most : ℕ) (s : Option ℕ) (n k v : Bytes) (a b c d : ℕ) (rest : Bytes) → NamedBy most n → NamedBy most k → d < 128
    → four_whole a b c d ≡ length v → length v ≤ 40960 → read_item most s (laid n k a b c d (v ++ rest)) ≡ item n k v rest
item_back most s n k v a b c d rest p q l w z =
    let x : leb 128 d ≡ false = lt-leb 128 d l in
    let y : leb (length v) 40960 ≡ true = le-leb (length v) 40960 z in
    let m : leb (length v) (length (v ++ rest)) ≡ true = le-leb (length v) (length (v ++ rest)) (omega (arith, length-append v rest)) in
    laid_read most s n k a b c d (v ++ rest) p q
    ∙ ap (λ (i : ℕ). on_head s (size_head n k d i (v ++ rest))) w
    ∙ ap (λ (t : Bool). on_head s (cond t (stuck 4 (v ++ rest)) (cond (leb (length v) 40960) (head n k (length v) (v ++ rest)) (stuck 5 (v ++ rest))))) x
    ∙ ap (λ (t : Bool). on_head s (cond t (head n k (length v) (v ++ rest)) (stuck 5 (v ++ rest)))) y
    ∙ ap (λ (t : Bool). cond t (item n k (take (length v) (v ++ rest)) (drop (length v) (v ++ rest))) (broken (stop_number s) [])) m
    ∙ (λ i. item n k (take_at v rest (length v) refl i) (drop_at v rest (length v) refl i))

pub read_end : (most : ℕ) (s : Option ℕ) (rest : Bytes) → read_item most s (0 ∷ rest) ≡ ended rest
unfolding read_item read_head zero_end after_start
read_end zero s rest = refl
read_end (suc most) s rest = refl

-- ---- only what stands there is read

pub zero_long : (k : ℕ) (n rest : Bytes) → NonZero n → length n ≡ suc k → zero_end k (n ++ rest) ≡ too_long rest
unfolding zero_end
zero_long k [] rest h l = absurd (omega arith)
zero_long zero (b ∷ []) rest h l = let z : eqb b 0 ≡ false = ne_eqb b 0 h.0 in rw z
zero_long zero (b ∷ (c ∷ n)) rest h l = absurd (omega arith)
zero_long (suc k) (b ∷ n) rest h l =
    let z : eqb b 0 ≡ false = ne_eqb b 0 h.0 in
    rw z (ap (in_front b) (zero_long k n rest h.1 (omega arith)))

pub zero_out : (k : ℕ) (n : Bytes) → NonZero n → length n ≤ k → zero_end k n ≡ ran_out
unfolding zero_end
zero_out zero [] h l = refl
zero_out (suc k) [] h l = refl
zero_out zero (b ∷ n) h l = absurd (omega arith)
zero_out (suc k) (b ∷ n) h l =
    let z : eqb b 0 ≡ false = ne_eqb b 0 h.0 in
    rw z (ap (in_front b) (zero_out k n h.1 (omega arith)))

size_short : (s : Option ℕ) (n k z : Bytes) → length z < 4 → after_kind s n k z ≡ stuck (stop_number s) []
unfolding after_kind
size_short s n k [] l = refl
size_short s n k (a ∷ []) l = refl
size_short s n k (a ∷ (b ∷ [])) l = refl
size_short s n k (a ∷ (b ∷ (c ∷ []))) l = refl
size_short s n k (a ∷ (b ∷ (c ∷ (d ∷ z)))) l = absurd (omega arith)

out_only : (most : ℕ) (s : Option ℕ) (bs : Bytes) → RunsOut most bs → read_item most s bs ≡ broken (stop_number s) []
unfolding read_item read_head after_start after_name
out_only most s bs (in_name p l) = rw (zero_out most bs p l)
out_only most s bs (in_kind n k e p q l) =
    ap (read_item most s) e ∙ ap (on_head s) (name_back most s n k p ∙ ap (after_name s n) (zero_out most k q l))
out_only most s bs (in_size n k z e p q l) =
    ap (read_item most s) e ∙ ap (on_head s) (name_back most s n (k ++ 0 ∷ z) p ∙ (kind_back most s n k z q ∙ size_short s n k z l))
out_only most s bs (in_value n k v a b c d e p q l w m) =
    let x : leb 128 d ≡ false = lt-leb 128 d l in
    let y : leb (four_whole a b c d) 40960 ≡ true = le-leb (four_whole a b c d) 40960 w in
    let z : leb (four_whole a b c d) (length v) ≡ false = lt-leb (four_whole a b c d) (length v) m in
    ap (read_item most s) e ∙ (laid_read most s n k a b c d v p q ∙ rw (x, y, z))

decided_only : (most : ℕ) (s : Option ℕ) (bs rest : Bytes) (q : ℕ) → Decides most bs rest q → read_item most s bs ≡ broken q rest
unfolding read_item read_head after_start after_name
decided_only most s bs rest q (long_name n e p l) = ap (read_item most s) e ∙ ap (λ (o : Took). on_head s (after_start most s o)) (zero_long most n rest p l)
decided_only most s bs rest q (no_kind n e p) =
    ap (read_item most s) e ∙ ap (on_head s) (name_back most s n (0 ∷ rest) p ∙ ap (after_name s n) (zero_front most [] rest tt (omega arith)))
decided_only most s bs rest q (long_kind n k e p r l) =
    ap (read_item most s) e ∙ ap (on_head s) (name_back most s n (k ++ rest) p ∙ ap (after_name s n) (zero_long most k rest r l))
decided_only most s bs rest q (negative n k a b c d e p r l) =
    let x : leb 128 d ≡ true = le-leb 128 d l in
    ap (read_item most s) e ∙ (laid_read most s n k a b c d rest p r ∙ rw x)
decided_only most s bs rest q (too_large n k a b c d e p r l w) =
    let x : leb 128 d ≡ false = lt-leb 128 d l in
    let y : leb (four_whole a b c d) 40960 ≡ false = lt-leb (four_whole a b c d) 40960 w in
    ap (read_item most s) e ∙ (laid_read most s n k a b c d rest p r ∙ rw (x, y))

pub reads_only : (most : ℕ) (s : Option ℕ) (bs : Bytes) (i : Item) → Reads most s bs i → read_item most s bs ≡ i
reads_only most s bs (ended rest) e = ap (read_item most s) e ∙ read_end most s rest
reads_only most s bs (broken q rest) (inl (o, e, f)) = out_only most s bs o ∙ ap₂ broken (sym (stops_one s q e)) (sym f)
reads_only most s bs (broken q rest) (inr x) = decided_only most s bs rest q x
reads_only most s bs (item n k v rest) (a, b, c, d, e, p, q, l, w, z) = ap (read_item most s) e ∙ item_back most s n k v a b c d rest p q l w z

pub items_read : ItemsRead
items_read most s bs i = (λ e. subst (Reads most s bs) e (reads most s bs), reads_only most s bs i)

-- of bytes, what is read is bytes
pub bytes_read : (most : ℕ) (s : Option ℕ) (bs n k v rest : Bytes) → Reads most s bs (item n k v rest) → EachByte bs → EachByte v × EachByte rest
bytes_read most s bs n k v rest (a, b, c, d, e, p, q, l, w, z) h =
    let vr : Bytes = v ++ rest in
    let x : EachByte (k ++ 0 ∷ (a ∷ (b ∷ (c ∷ (d ∷ vr))))) =
    rest_bytes 0 (k ++ 0 ∷ (a ∷ (b ∷ (c ∷ (d ∷ vr))))) (bytes_behind n (0 ∷ (k ++ 0 ∷ (a ∷ (b ∷ (c ∷ (d ∷ vr)))))) (subst EachByte e h)) in
    let y : EachByte (a ∷ (b ∷ (c ∷ (d ∷ vr)))) = rest_bytes 0 (a ∷ (b ∷ (c ∷ (d ∷ vr)))) (bytes_behind k (0 ∷ (a ∷ (b ∷ (c ∷ (d ∷ vr))))) x) in
    let u : EachByte vr = rest_bytes d vr (rest_bytes c (d ∷ vr) (rest_bytes b (c ∷ (d ∷ vr)) (rest_bytes a (b ∷ (c ∷ (d ∷ vr))) y))) in
    (bytes_front v rest u, bytes_behind v rest u)

-- ---- a record that was written is read back

four_small : (m : ℕ) → m ≤ 40960 → four_whole (m % 256) (m / 256 % 256) (m / 256 / 256 % 256) (m / 256 / 256 / 256 % 256) ≡ m
four_small m l = omega arith

pub record_back : (s : Option ℕ) (n : Bytes) (f : Form) (rest : Bytes) → Named n → Named (kind_of f) → length (bytes_of f) ≤ 40960
    → read_item 255 s (record_bytes n f ++ rest) ≡ item n (kind_of f) (bytes_of f) rest
record_back s n f rest p q l =
    let k : Bytes = kind_of f in
    let v : Bytes = bytes_of f in
    let m : ℕ = length (bytes_of f) in
    let a : ℕ = m % 256 in
    let b : ℕ = m / 256 % 256 in
    let c : ℕ = m / 256 / 256 % 256 in
    let d : ℕ = m / 256 / 256 / 256 % 256 in
    ap (read_item 255 s) (append_assoc n (0 ∷ (k ++ 0 ∷ (a ∷ (b ∷ (c ∷ (d ∷ v)))))) rest
    ∙ ap (λ (x : Bytes). n ++ 0 ∷ x) (append_assoc k (0 ∷ (a ∷ (b ∷ (c ∷ (d ∷ v))))) rest))
    ∙ item_back 255 s n k v a b c d rest p q (omega arith) (four_small m l) l

pub record_sized : (n : Bytes) (f : Form) → length (record_bytes n f) ≡ length n + length (kind_of f) + length (bytes_of f) + 6
record_sized n f =
    let k : Bytes = kind_of f in
    let v : Bytes = bytes_of f in
    let x = length-append n ((0 ∷ []) ++ (k ++ ((0 ∷ []) ++ (low_first 4 (length v) ++ v)))) in
    let y = length-append k ((0 ∷ []) ++ (low_first 4 (length v) ++ v)) in
    omega arith

pub records_stand_lem : RecordsStand
records_stand_lem = record {
  sized = record_sized;
  back = λ s n f rest p g. record_back s n f rest p (good_kind f g) g.1;
  ends = λ s rest. read_end 255 s rest;
}
