-- How the lines of a head are read.
use Rattle.std.specs.Prelude.{◌==◌, ◌&&◌, not, nat_le, if◌then◌else◌, codes}
use Rattle.std.specs.List.{list_all}
use Rattle.std.specs.Option.{option_map}
use Rattle.std.specs.Str.{bytes_eq}
use Rattle.std.proofs.Common.{◌≡◌, ◌≢◌, ℕ, ◌+◌, ◌≤◌, Bool, true, false, List, [], ◌∷◌, ◌++◌, length}
use Rattle.std.proofs.Common.{take, suc, Option, Some, None, Result, Ok, Err, Bor, refl, sym, ◌∙◌}
use Rattle.std.proofs.Common.{ap, arith}
use Rattle.std.proofs.lemmas.Bool.Decides.{nat_tests}
use Rattle.std.proofs.lemmas.List.{take_all, length-take-le, length-map}
use Rattle.pct_ask.specs.VerdictWords.{words_of}
use Rattle.trace_text.specs.declared.fault.TraceFault.TheVariants.{BadHeader}
use Rattle.pct_ask.specs.Words.{is_name, is_among}
use Rattle.pct_ask.specs.NameLists.{NameLists}
use Rattle.pct_ask.specs.Pieces.{seen, pieces_after}
use Rattle.trace_text.specs.reader.Heads.{are_different, are_order_names, names_after_order}
use Rattle.trace_text.specs.reader.Heads.{order_on_line}
use Rattle.trace_text.specs.reader.Heads.{threads_of_names, point_words, limit_words}
use Rattle.pct_ask.specs.Numbers.{step_counts}
use Rattle.pct_ask.proofs.laws.Splits.{parts_of-some}
use Rattle.trace_text.specs.reader.Reading.{Fault, ◌>>=◌, head_value, head_line, known_order}
use Rattle.trace_text.specs.reader.Reading.{order_line}
use Rattle.trace_text.specs.reader.Seen.{cut_value}

value-after : {A : Type 0} (line : ℕ) (value : Option A) (after : Option (Bor (List ℕ)))
    → head_value line value (pieces_after after) ≡ cut_value line value after
value-after line value None = refl
value-after line None (Some rest) = let some = parts_of-some 10 rest.now in rw some.2 refl
value-after line (Some x) (Some rest) = let some = parts_of-some 10 rest.now in rw some.2 refl

-- a line of a head is its first piece, with what follows
pub head_line-cut : {A : Type 0} (line : ℕ) (says : List ℕ → Option A) (pieces : List (List ℕ))
    (piece : List ℕ) (after : Option (Bor (List ℕ))) → pieces ≡ piece ∷ pieces_after after
    → head_line line says pieces ≡ cut_value line (says piece) after
head_line-cut line says pieces piece after is =
    ap (head_line line says) is ∙ value-after line (says piece) after

-- ---- words that are seen

pub all-seen : (p : List ℕ → Bool) (words : List (Bor (List ℕ)))
    → list_all (λ w. p w.now) words ≡ list_all p (seen words)
all-seen p [] = refl
all-seen p (w ∷ ws) = rw (all-seen p ws)

-- ---- what each word is

-- the same behind others
abbrev pub fronted : List ℕ → Option (List ℕ) → Option (List ℕ)
fronted front rest = option_map (λ xs. front ++ xs) rest

-- ---- only the first words count

pub limit_words-take : (words : List (List ℕ)) → limit_words (take 3 words) ≡ limit_words words
limit_words-take [] = refl
limit_words-take (a ∷ []) = refl
limit_words-take (a ∷ b ∷ []) = refl
limit_words-take (a ∷ b ∷ c ∷ words) = refl

points-by : (few : Bool) (head : List ℕ) (words : List (List ℕ)) → nat_le (length words) 7 ≡ few
    → point_words (head ∷ take 8 words) ≡ point_words (head ∷ words)
points-by true head words h =
    let short : length words ≤ 7 = grind (arith, nat_tests) in
    ap (λ ws. point_words (head ∷ ws)) (take_all 8 words (omega arith))
points-by false head words h =
    let long : 8 ≤ length words = grind (arith, nat_tests) in
    let cut : length (take 8 words) ≡ 8 = length-take-le 8 words long in
    rw (cut, h) (no-more (bytes_eq head (codes "points")) (step_counts (take 8 words))
    (step_counts words))
  where
    no-more : (b : Bool) (x y : Option (List ℕ))
        → (if b && false then x else None) ≡ (if b && false then y else None)
    no-more true x y = refl
    no-more false x y = refl

pub point_words-take : (words : List (List ℕ)) → point_words (take 9 words) ≡ point_words words
point_words-take [] = refl
point_words-take (head ∷ words) = points-by (nat_le (length words) 7) head words refl

order-by : (short : Bool) (names : NameLists) (head : List ℕ) (words : List (List ℕ))
    → nat_le (length words) (length names.threads) ≡ short
    → names_after_order names (head ∷ take (length names.threads + 1) words)
    ≡ names_after_order names (head ∷ words)
order-by true names head words h =
    let few : length words ≤ length names.threads + 1 = grind (arith, nat_tests) in
    ap (λ ws. names_after_order names (head ∷ ws)) (take_all (length names.threads + 1) words few)
order-by false names head words h =
    let long : length names.threads + 1 ≤ length words = grind (arith, nat_tests) in
    let cut : length (take (length names.threads + 1) words) ≡ length names.threads + 1 =
    length-take-le (length names.threads + 1) words long in
    let apart : (length names.threads + 1 == length names.threads) ≡ false =
    grind (arith, nat_tests) in
    let other : (length words == length names.threads) ≡ false = grind (arith, nat_tests) in
    rw (cut, apart, other) (no-order (bytes_eq head (codes "order"))
    (take (length names.threads + 1) words) words)
  where
    no-order : (b : Bool) (x y : List (List ℕ))
        → (if b && false then Some x else None) ≡ (if b && false then Some y else None)
    no-order true x y = refl
    no-order false x y = refl

pub names_after_order-take : (names : NameLists) (words : List (List ℕ))
    → names_after_order names (take (length names.threads + 2) words)
    ≡ names_after_order names words
names_after_order-take names [] =
    ap (names_after_order names) (take_all (length names.threads + 2) [] (omega arith))
names_after_order-take names (head ∷ words) =
    let one_less : length names.threads + 2 ≡ suc (length names.threads + 1) = omega arith in
    rw one_less (order-by (nat_le (length words) (length names.threads)) names head words refl)

-- ---- the order

found-value : {A B : Type 0} (f : A → B) (line : ℕ) (value : Option A)
    (after : Option (Bor (List ℕ))) (x : A) (rest : List (List ℕ))
    → cut_value line value after ≡ Ok (x, rest)
    → cut_value line (option_map f value) after ≡ Ok (f x, rest)
found-value f line value None x rest h = absurd cc
found-value f line None (Some r) x rest h = absurd cc
found-value f line (Some y) (Some r) x rest h = ap (map-first f) h
  where
    map-first : {A B : Type 0} → (A → B) → Result (A × List (List ℕ)) Fault
        → Result (B × List (List ℕ)) Fault
    map-first f (Ok p) = Ok (f p.0, p.1)
    map-first f (Err e) = Err e

lost-value : {A B : Type 0} (f : A → B) (line : ℕ) (value : Option A)
    (after : Option (Bor (List ℕ))) (e : Fault) → cut_value line value after ≡ Err e
    → cut_value line (option_map f value) after ≡ Err e
lost-value f line value None e h = let same : (line, BadHeader) ≡ e = cc in ap (λ x. Err x) same
lost-value f line None (Some r) e h = let same : (line, BadHeader) ≡ e = cc in ap (λ x. Err x) same
lost-value f line (Some y) (Some r) e h = absurd cc

order-value : (names : NameLists) (piece : List ℕ) (most : ℕ) (words : List (Bor (List ℕ)))
    (value : Option (Bor (List (Bor (List ℕ))))) → most ≡ length names.threads
    → seen words ≡ take (most + 2) (words_of piece)
    → option_map (λ found. seen found.now) value ≡ names_after_order names (seen words)
    → order_on_line names piece ≡ option_map (λ found. seen found.now) value
order-value names piece most words value all are is =
    sym (is ∙ ap (names_after_order names) (are ∙ ap (λ n. take (n + 2) (words_of piece)) all)
    ∙ names_after_order-take names (words_of piece))

-- what the line of the order says, where it is one
pub order_line-found : (names : NameLists) (pieces : List (List ℕ)) (piece : List ℕ)
    (after : Option (Bor (List ℕ))) (most : ℕ) (words : List (Bor (List ℕ)))
    (value : Option (Bor (List (Bor (List ℕ))))) (found : Bor (List (Bor (List ℕ))))
    (rest : List (List ℕ)) → pieces ≡ piece ∷ pieces_after after → most ≡ length names.threads
    → seen words ≡ take (most + 2) (words_of piece)
    → option_map (λ found. seen found.now) value ≡ names_after_order names (seen words)
    → cut_value 2 value after ≡ Ok (found, rest)
    → order_line names pieces ≡ (known_order (threads_of_names names (seen found.now)) >>= λ order.
    Ok (order, rest))
order_line-found names pieces piece after most words value found rest cut all are is got =
    let says : cut_value 2 (order_on_line names piece) after ≡ Ok (seen found.now, rest) =
    rw (order-value names piece most words value all are is)
    (found-value (λ w. seen w.now) 2 value after found rest got) in
    ap (λ r. r >>= λ ws. (known_order (threads_of_names names ws.0) >>= λ order. Ok (order, ws.1)))
    (head_line-cut 2 (order_on_line names) pieces piece after cut ∙ says)

-- ---- different words

pub different-first : (words others : List (Bor (List ℕ))) (word : Bor (List ℕ)) (among : Bool)
    → words ≡ word ∷ others → among ≡ is_among word.now (seen others)
    → are_different (seen words) ≡ (not among && are_different (seen others))
different-first words others word among are is =
    rw (are, ← is)

pub order-long : (names : NameLists) (words : List (Bor (List ℕ)))
    → length words ≢ length names.threads → false ≡ are_order_names names (seen words)
order-long names words apart =
    let other : (length words == length names.threads) ≡ false = grind (arith, nat_tests) in
    rw (length-map {A = Bor (List ℕ)}, other)

pub order-parts : (names : NameLists) (words : List (Bor (List ℕ))) (lawful : Bool)
    → length words ≡ length names.threads → lawful ≡ list_all (λ w. is_name 1 w.now) words
    → are_order_names names (seen words) ≡ (lawful && are_different (seen words))
order-parts names words lawful long is =
    let same : (length words == length names.threads) ≡ true = grind (arith, nat_tests) in
    rw (length-map {A = Bor (List ℕ)}, same, ← all-seen (is_name 1) words, is)

pub test-same : (x y : ℕ) → (x == y) ≡ true → x ≡ y
test-same x y h = grind (arith, nat_tests)
