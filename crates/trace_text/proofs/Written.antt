-- How the words of a line, and the lines of a trace, stand one behind another.
use Rattle.std.proofs.Common.{◌≡◌, ℕ, ◌+◌, List, [], ◌∷◌, ◌++◌, length, map, refl, sym, ap, ◌∙◌}
use Rattle.std.proofs.Common.{append_assoc, add-zero, arith}
use Rattle.std.specs.Prelude.{codes, decimal}
use Rattle.std.specs.List.{join_with_byte, flat_map}
use Rattle.std.proofs.lemmas.List.{append-nil}
use Rattle.std.proofs.lemmas.List.Concat.{flat_map-append}
use Rattle.pct_ask.specs.NameLists.{NameLists}
use Rattle.pct_ask.specs.VerdictText.{thread_name}
use Rattle.pct_ask.specs.TraceText.{TraceHead, event_words, step_lines, head_lines}
use Rattle.pct_ask.specs.TraceText.{verdict_line_words, line_text, trace_text}
use Rattle.pct_ask.specs.declared.event.Event.{Event}
use Rattle.pct_ask.specs.declared.verdict.Verdict.{Verdict}
use Rattle.trace_text.specs.Spaced.{behind_spaces}
use Rattle.trace_text.proofs.laws.Spaced.{join-spaced, spaced-append}

regrouped : (old s n l a r end : List ℕ)
    → ((((old ++ s) ++ n) ++ l) ++ a) ++ (r ++ end) ≡ old ++ ((s ++ (n ++ (l ++ (a ++ r)))) ++ end)
regrouped old s n l a r end = simp append_assoc

-- the pieces of a step's line
pub event_line : (old step name line : List ℕ) (ask : List (List ℕ)) (sign answer : List ℕ)
    → ((((old ++ step) ++ behind_spaces (name ∷ [])) ++ behind_spaces (line ∷ []))
    ++ behind_spaces ask) ++ (behind_spaces (sign ∷ answer ∷ []) ++ 10 ∷ [])
    ≡ old ++ line_text (step ∷ name ∷ line ∷ (ask ++ sign ∷ answer ∷ []))
event_line old step name line ask sign answer =
    let words : join_with_byte 32 (step ∷ name ∷ line ∷ (ask ++ sign ∷ answer ∷ []))
    ≡ step ++ (behind_spaces (name ∷ [])
    ++ (behind_spaces (line ∷ []) ++ (behind_spaces ask
    ++ behind_spaces (sign ∷ answer ∷ [])))) =
    join-spaced step (name ∷ line ∷ (ask ++ sign ∷ answer ∷ []))
    ∙ ap (λ (x : List ℕ). step ++ x) (spaced-append (name ∷ []) (line ∷ (ask ++ sign ∷ answer ∷ []))
    ∙ ap (λ (x : List ℕ). behind_spaces (name ∷ []) ++ x)
    (spaced-append (line ∷ []) (ask ++ sign ∷ answer ∷ [])
    ∙ ap (λ (x : List ℕ). behind_spaces (line ∷ []) ++ x)
    (spaced-append ask (sign ∷ answer ∷ [])))) in
    regrouped old step (behind_spaces (name ∷ [])) (behind_spaces (line ∷ [])) (behind_spaces ask)
    (behind_spaces (sign ∷ answer ∷ [])) (10 ∷ [])
    ∙ ap (λ (x : List ℕ). old ++ (x ++ 10 ∷ [])) (sym words)

-- one more step
pub step_lines-push : (names : NameLists) (n : ℕ) (events : List Event) (event : Event)
    → step_lines names n (events ++ event ∷ [])
    ≡ step_lines names n events ++ event_words names (n + length events) event ∷ []
step_lines-push names n [] event = rw add-zero refl
step_lines-push names n (e ∷ events) event =
    ap (λ (ls : List (List (List ℕ))). event_words names n e ∷ ls)
    (step_lines-push names (n + 1) events event
    ∙ ap (λ (k : ℕ). step_lines names (n + 1) events ++ event_words names k event ∷ [])
    (omega arith))

-- a line at the end of the lines of steps
pub with_step : (names : NameLists) (old : List ℕ) (events : List Event) (event : Event) (n : ℕ)
    → n ≡ length events + 1
    → (old ++ flat_map line_text (step_lines names 1 events))
    ++ line_text (event_words names n event)
    ≡ old ++ flat_map line_text (step_lines names 1 (events ++ event ∷ []))
with_step names old events event n e =
    let lines : step_lines names 1 (events ++ event ∷ [])
    ≡ step_lines names 1 events ++ event_words names n event ∷ [] =
    step_lines-push names 1 events event
    ∙ ap (λ (k : ℕ). step_lines names 1 events ++ event_words names k event ∷ [])
    (omega arith) in
    append_assoc old (flat_map line_text (step_lines names 1 events))
    (line_text (event_words names n event))
    ∙ ap (λ (x : List ℕ). old ++ x) (sym
    (flat_map-append line_text (step_lines names 1 events) (event_words names n event ∷ [])
    ∙ ap (λ (x : List ℕ). flat_map line_text (step_lines names 1 events) ++ x)
    (append-nil (line_text (event_words names n event)))))
    ∙ ap (λ (x : List (List (List ℕ))). old ++ flat_map line_text x) (sym lines)

regrouped_head : (old version order points limit end : List ℕ)
    → (((((old ++ (version ++ end)) ++ order) ++ end) ++ points) ++ end) ++ (limit ++ end)
    ≡ old ++ ((version ++ end) ++ ((order ++ end)
    ++ ((points ++ end) ++ ((limit ++ end) ++ []))))
regrouped_head old version order points limit end = simp (append_assoc, append-nil)

same-head : (old a b c d x y z w end : List ℕ) → a ≡ x → b ≡ y → c ≡ z → d ≡ w
    → old ++ ((a ++ end) ++ ((b ++ end) ++ ((c ++ end) ++ ((d ++ end) ++ []))))
    ≡ old ++ ((x ++ end) ++ ((y ++ end) ++ ((z ++ end) ++ ((w ++ end) ++ []))))
same-head old a b c d x y z w end p q r s = rw (p, q, r, s)

-- the four lines of a head
pub head_text : (names : NameLists) (head : TraceHead) (old : List ℕ)
    → (((((old ++ (codes "trace" ++ behind_spaces (decimal head.version ∷ []) ++ 10 ∷ []))
    ++ (codes "order" ++ behind_spaces (map (thread_name names) head.order))) ++ 10 ∷ [])
    ++ (codes "points" ++ behind_spaces (map decimal head.points))) ++ 10 ∷ [])
    ++ (codes "limit" ++ behind_spaces (decimal head.limit ∷ []) ++ 10 ∷ [])
    ≡ old ++ flat_map line_text (head_lines names head)
head_text names head old =
    regrouped_head old (codes "trace" ++ behind_spaces (decimal head.version ∷ []))
    (codes "order" ++ behind_spaces (map (thread_name names) head.order))
    (codes "points" ++ behind_spaces (map decimal head.points))
    (codes "limit" ++ behind_spaces (decimal head.limit ∷ [])) (10 ∷ [])
    ∙ same-head old (codes "trace" ++ behind_spaces (decimal head.version ∷ []))
    (codes "order" ++ behind_spaces (map (thread_name names) head.order))
    (codes "points" ++ behind_spaces (map decimal head.points))
    (codes "limit" ++ behind_spaces (decimal head.limit ∷ []))
    (join_with_byte 32 (codes "trace" ∷ decimal head.version ∷ []))
    (join_with_byte 32 (codes "order" ∷ map (thread_name names) head.order))
    (join_with_byte 32 (codes "points" ∷ map decimal head.points))
    (join_with_byte 32 (codes "limit" ∷ decimal head.limit ∷ [])) (10 ∷ [])
    (sym (join-spaced (codes "trace") (decimal head.version ∷ [])))
    (sym (join-spaced (codes "order") (map (thread_name names) head.order)))
    (sym (join-spaced (codes "points") (map decimal head.points)))
    (sym (join-spaced (codes "limit") (decimal head.limit ∷ [])))

-- a head, steps and a verdict one behind another
pub whole_text : (head : TraceHead) (names : NameLists) (events : List Event) (verdict : Verdict)
    → (flat_map line_text (head_lines names head) ++ flat_map line_text (step_lines names 1 events))
    ++ line_text (verdict_line_words names verdict) ≡ trace_text head names events verdict
whole_text head names events verdict =
    ap (λ (x : List ℕ). x ++ line_text (verdict_line_words names verdict))
    (sym (flat_map-append line_text (head_lines names head) (step_lines names 1 events)))
    ∙ ap (λ (x : List ℕ). flat_map line_text (head_lines names head ++ step_lines names 1 events)
    ++ x) (sym (append-nil (line_text (verdict_line_words names verdict))))
    ∙ sym (flat_map-append line_text (head_lines names head ++ step_lines names 1 events)
    (verdict_line_words names verdict ∷ []))
