-- How many bytes a trace has.
use Rattle.std.specs.Prelude.{codes, decimal, map}
use Rattle.std.specs.Fmt.{signed_decimal}
use Rattle.std.specs.List.{All, flat_map, join_with_byte}
use Rattle.std.proofs.Common.{◌≡◌, ◌⊎◌, ℕ, ◌+◌, ◌*◌, ◌<◌, ◌≤◌, Bool, true, false, List, [], ◌∷◌}
use Rattle.std.proofs.Common.{◌++◌, length, get_or, ℤ, pos, negsuc, sym, inl, inr, arith}
use Rattle.std.proofs.Common.{length-append}
use Rattle.std.proofs.Math.Path.{subst}
use Rattle.std.proofs.lemmas.Fmt.{length-decimal-le, length_signed_le}
use Rattle.std.proofs.lemmas.List.Elements.{All-head, All-tail}
use Rattle.pct_ask.specs.NameLists.{NameLists, list_of, AreNames}
use Rattle.pct_ask.specs.Numbers.{number_text}
use Rattle.pct_ask.specs.VerdictText.{thread_name, verdict_words, named_verdict}
use Rattle.pct_ask.specs.TraceText.{ask_words, check_word, event_words, step_lines}
use Rattle.pct_ask.specs.TraceText.{verdict_line_words, line_text, trace_text}
use Rattle.pct_ask.specs.declared.names.NameKind.{NameKind}
use Rattle.pct_ask.specs.declared.names.NameKind.TheVariants.{Thread}
use Rattle.pct_ask.specs.declared.ask.Ask.{Ask}
use Rattle.pct_ask.specs.declared.event.Event.{Event}
use Rattle.pct_ask.proofs.laws.NameParts.{name-short}
use Rattle.pct_ask.proofs.laws.TextSizes.{size, size-append, length-join, line-short, fault-short}
use Rattle.pct_ask.proofs.laws.TextSizes.{verdict-size}
use Rattle.pct_ask.specs.Limits.{IsStepCount}
use Rattle.pct_ask.specs.declared.trace_verbs.Verb.{Verb}
use Rattle.pct_ask.specs.declared.trace_verbs.Verb.TheVariants as verbs
use Rattle.pct_ask.specs.declared.trace_verbs.OperandKind.{OperandKind}
use Rattle.pct_ask.specs.declared.trace_verbs.OperandKind.TheVariants as kinds
use Rattle.pct_ask.specs.declared.trace_verbs.Operands.{Operands}
use Rattle.pct_ask.specs.declared.trace_verbs.Operands.TheVariants.{Bare, One, Two, Three}
use Rattle.pct_ask.specs.TraceVerbs.{verb_word, verb_operands}
use Rattle.trace_text.specs.Lawful.{IsAsk, IsStep, IsValue}
use Rattle.trace_text.specs.Trace.{head_of, IsWritableFile}
use Rattle.trace_text.specs.declared.file.TraceFile.{TraceFile}
use Rattle.trace_text.specs.Operands.{listed, Each}
use Rattle.trace_text.specs.declared.asks.Operand.{Operand}
use Rattle.trace_text.specs.declared.asks.Operand.TheVariants.{Place, Value, Holds, Cause}
use Rattle.trace_text.proofs.Names.{name-lawful}
use Rattle.trace_text.proofs.AskParts.{IsOperand, operand_word, operand_words, parts, parts-words}
use Rattle.trace_text.proofs.AskParts.{lawful-operands}
use Rattle.trace_text.proofs.Heads.{order-named}

length-line : (word : List ℕ) (words : List (List ℕ))
    → length (line_text (word ∷ words)) ≡ size (word ∷ words)
length-line word words =
    omega (
      arith,
      length-join word words,
      length-append (join_with_byte 32 (word ∷ words)) (10 ∷ []),
    )

kind-short : (names : NameLists) (kind : NameKind) (id : ℕ) → AreNames names
    → id < length (list_of kind names) → length (get_or (list_of kind names) id []) ≤ 32
kind-short names kind id sound h =
    name-short (get_or (list_of kind names) id []) (name-lawful names kind id sound h)

value-short : (z : ℤ) → IsValue z → length (number_text z) ≤ 20
value-short (pos n) fits =
    length_signed_le 19 (pos n) (omega (arith, fits.sfits)) (omega (arith, fits.sfits))
value-short (negsuc n) fits =
    length_signed_le 19 (negsuc n) (omega (arith, fits.sfits)) (omega (arith, fits.sfits))

check-short : (holds : Bool) → length (check_word holds) ≤ 12
check-short true = omega arith
check-short false = omega arith

-- how many bytes an operand of a kind has at most, and operands with their spaces
abbrev room : OperandKind → ℕ
room (kinds.Object kind) = 32
room kinds.Value = 20
room kinds.Holds = 12
room kinds.Cause = 12

abbrev rooms : Operands OperandKind → ℕ
rooms Bare = 0
rooms (One k) = room k + 1
rooms (Two k l) = room k + room l + 2
rooms (Three k l m) = room k + room l + room m + 3

operand-short : (names : NameLists) (kind : OperandKind) (operand : Operand) → AreNames names
    → IsOperand names kind operand → length (operand_word names kind operand) ≤ room kind
operand-short names (kinds.Object kind) (Place id) sound h = kind-short names kind id sound h
operand-short names kinds.Value (Value z) sound h = value-short z h
operand-short names kinds.Holds (Holds holds) sound h = check-short holds
operand-short names kinds.Cause (Cause kind) sound h = fault-short kind
operand-short names kind operand sound h = absurd h

operands-size : (names : NameLists) (ks : Operands OperandKind) (operands : Operands Operand)
    → AreNames names → Each (IsOperand names) ks operands
    → size (listed (operand_words names ks operands)) ≤ rooms ks
operands-size names Bare Bare sound h = omega arith
operands-size names (One k) (One a) sound h =
    let x = operand-short names k a sound h in omega arith
operands-size names (Two k l) (Two a b) sound h =
    let x = operand-short names k a sound h.0 in
    let y = operand-short names l b sound h.1 in
    omega arith
operands-size names (Three k l m) (Three a b c) sound h =
    let x = operand-short names k a sound h.0 in
    let y = operand-short names l b sound h.1 in
    let z = operand-short names m c sound h.2 in
    omega arith
operands-size names ks operands sound h = absurd h

verb-size : (verb : Verb) → length (verb_word verb) + rooms (verb_operands verb) ≤ 78
verb-size verbs.Read = omega arith
verb-size verb = omega arith

head-size : (word : List ℕ) (words : List (List ℕ)) (most : ℕ) → size words ≤ most
    → length word + most ≤ 78 → size (word ∷ words) ≤ 79
head-size word words most p q = omega arith

ask-size : (names : NameLists) (version : ℕ) (ask : Ask) → AreNames names → IsAsk names version ask
    → size (ask_words names ask) ≤ 79
ask-size names version ask sound h =
    let verb = (parts ask).0 in
    let ks = verb_operands verb in
    subst (λ (words : List (List ℕ)). size words ≤ 79) (sym (parts-words names ask))
    (head-size (verb_word verb) (listed (operand_words names ks (parts ask).1)) (rooms ks)
    (operands-size names ks (parts ask).1 sound (lawful-operands names version ask h))
    (verb-size verb))

step-sum : (number name line : List ℕ) (ask : List (List ℕ)) (answer : List ℕ) → length number ≤ 6
    → length name ≤ 32 → length line ≤ 4 → size ask ≤ 79 → length answer ≤ 20
    → size (number ∷ name ∷ line ∷ (ask ++ codes "=" ∷ answer ∷ [])) ≤ 147
step-sum number name line ask answer a b c d e =
    omega (arith, size-append ask (codes "=" ∷ answer ∷ []))

step-size : (names : NameLists) (version n : ℕ) (event : Event) → AreNames names
    → IsStep names version event → n ≤ 100000 → length (line_text (event_words names n event)) ≤ 147
step-size names version n event sound step small =
    let sum = step-sum (decimal n) (thread_name names event.thread) (decimal event.line)
    (ask_words names event.ask) (number_text event.answer)
    (length-decimal-le 6 n (omega arith) (omega arith) (omega arith))
    (kind-short names Thread event.thread sound step.thread) (line-short event.line step.line)
    (ask-size names version event.ask sound step.ask) (value-short event.answer step.answer) in
    omega (
      arith,
      sum,
      length-line (decimal n)
          (thread_name names event.thread ∷ decimal event.line
          ∷ (ask_words names event.ask ++ codes "=" ∷ signed_decimal event.answer ∷ [])),
    )

-- the bytes of lines
abbrev sizes : List (List (List ℕ)) → ℕ
sizes lines = length (flat_map line_text lines)

sizes-cons : (line : List (List ℕ)) (lines : List (List (List ℕ)))
    → sizes (line ∷ lines) ≡ length (line_text line) + sizes lines
sizes-cons line lines = length-append (line_text line) (flat_map line_text lines)

steps-size : (names : NameLists) (version next : ℕ) (events : List Event) (last : List (List ℕ))
    → AreNames names → All (IsStep names version) events → next + length events ≤ 100001
    → sizes (step_lines names next events ++ last ∷ []) ≤ 147 * length events
    + length (line_text last)
steps-size names version next [] last sound steps few = omega (arith, sizes-cons last [])
steps-size names version next (event ∷ events) last sound steps few =
    let here = step-size names version next event sound
    (All-head (IsStep names version) event events steps) (omega arith) in
    let others = steps-size names version (next + 1) events last sound
    (All-tail (IsStep names version) event events steps) (omega arith) in
    omega (
      arith,
      here,
      others,
      sizes-cons (event_words names next event)
          (step_lines names (next + 1) events ++ last ∷ []),
    )

-- ---- the head

order-size : (names : NameLists) (order : List ℕ) → AreNames names
    → All (λ t. t < length names.threads) order
    → size (map (thread_name names) order) ≤ 33 * length order
order-size names [] sound all = omega arith
order-size names (t ∷ ts) sound all =
    let P = λ (u : ℕ). u < length names.threads in
    let here = kind-short names Thread t sound (All-head P t ts all) in
    let others = order-size names ts sound (All-tail P t ts all) in
    omega arith

points-size : (points : List ℕ) → All IsStepCount points
    → size (map decimal points) ≤ 7 * length points
points-size [] all = omega arith
points-size (p ∷ ps) all =
    let here = All-head IsStepCount p ps all in
    let short = length-decimal-le 6 p (omega arith) (omega (arith, here.0, here.1))
    (omega (arith, here.0, here.1)) in
    let others = points-size ps (All-tail IsStepCount p ps all) in
    omega arith

version-size : (version : ℕ) → (version ≡ 1) ⊎ (version ≡ 2) → length (decimal version) ≤ 1
version-size version (inl one) =
    length-decimal-le 1 version (omega arith) (omega arith) (omega arith)
version-size version (inr two) =
    length-decimal-le 1 version (omega arith) (omega arith) (omega arith)

sum-four : (a b c d e v o p l s : ℕ) → a ≤ 8 → b ≤ 2118 → c ≤ 56 → d ≤ 13 → e ≤ 14702446 → v ≡ a + o
    → o ≡ b + p → p ≡ c + l → l ≡ d + s → s ≤ e → v ≤ 16777216
sum-four a b c d e v o p l s ha hb hc hd he hv ho hp hl hs = omega arith

-- a trace has at most 16,777,216 bytes
pub trace-size : (names : NameLists) (file : TraceFile) → AreNames names → IsWritableFile names file
    → length (trace_text (head_of file.header) names file.events file.verdict) ≤ 16777216
trace-size names file sound run =
    let head = run.head in
    let last = verdict_line_words names file.verdict in
    let steps = step_lines names 1 file.events ++ last ∷ [] in
    let l1 = codes "trace" ∷ decimal file.header.version ∷ [] in
    let l2 = codes "order" ∷ map (thread_name names) file.header.order in
    let l3 = codes "points" ∷ map decimal file.header.points in
    let l4 = codes "limit" ∷ decimal file.header.limit ∷ [] in
    let a : length (line_text l1) ≤ 8 = let v = version-size file.header.version head.version in
    omega (arith, v, length-line (codes "trace") (decimal file.header.version ∷ [])) in
    let b : length (line_text l2) ≤ 2118 =
    let all = order-named names file.header.order head.order head.whole in
    let o = order-size names file.header.order sound all in let f = sound.few Thread in
    let e = head.whole in omega (
      arith,
      o,
      f,
      e,
      length-line (codes "order") (map (thread_name names) file.header.order),
    ) in
    let c : length (line_text l3) ≤ 56 = let p = points-size file.header.points head.points in
    let f = head.few_points in omega
    (arith, p, f, length-line (codes "points") (map decimal file.header.points)) in
    let d : length (line_text l4) ≤ 13 =
    let l = length-decimal-le 6 file.header.limit (omega arith)
    (omega (arith, head.limit.0, head.limit.1)) (omega (arith, head.limit.0, head.limit.1)) in
    omega (arith, l, length-line (codes "limit") (decimal file.header.limit ∷ [])) in
    let v : length (line_text last) ≤ 2446 =
    let w = verdict-size names file.verdict sound run.end.threads run.end.form in
    omega (
      arith,
      w,
      length-line (codes "verdict")
          (verdict_words (named_verdict names file.verdict)),
    ) in
    let e : sizes steps ≤ 14702446 = let s =
    steps-size names file.header.version 1 file.events last sound run.steps
    (let f = run.few in omega (arith, f, head.limit.1)) in let f = run.few in
    omega (arith, s, f, v, head.limit.1) in
    sum-four (length (line_text l1)) (length (line_text l2)) (length (line_text l3))
    (length (line_text l4)) 14702446 (sizes (l1 ∷ l2 ∷ l3 ∷ l4 ∷ steps))
    (sizes (l2 ∷ l3 ∷ l4 ∷ steps)) (sizes (l3 ∷ l4 ∷ steps)) (sizes (l4 ∷ steps)) (sizes steps)
    a b c d (omega arith) (sizes-cons l1 (l2 ∷ l3 ∷ l4 ∷ steps))
    (sizes-cons l2 (l3 ∷ l4 ∷ steps)) (sizes-cons l3 (l4 ∷ steps)) (sizes-cons l4 steps) e
