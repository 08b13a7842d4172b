-- `certify`: whether every order that places a directive's thread last leads to its verdict (this
-- project).
use Rattle.std.specs.Prelude.{◌≡◌, ℕ, Bool, true, false, List, [], ◌∷◌, ◌++◌, map, codes, decimal}
use Rattle.std.specs.List.{flat_map}
use Rattle.pct_ask.specs.NameLists.{NameLists}
use Rattle.pct_ask.specs.VerdictText.{thread_name, named_verdict, verdict_words}
use Rattle.pct_ask.specs.TraceText.{line_text}
use Rattle.pct_ask.specs.declared.Deal.{Deal}
use Rattle.script_tree.specs.ScriptText.{ScriptText}
use Rattle.script_body.specs.Bodies.{bodies_of}
use Rattle.directive.specs.declared.directive.Directive.{Directive}
use Rattle.directive_run.specs.Certifying.{Certifies}
use Rattle.directive_run.specs.declared.answers.CertifyRow.{CertifyRow}
use Rattle.directive_run.specs.declared.answers.Certified.{Certified}
use Rattle.directive_run.specs.declared.answers.Certified.TheVariants.{Yes, Refuted, TooLong}
use Rattle.directive_run.specs.declared.answers.Certified.TheVariants.{TooManyThreads}
use Rattle.pct_top.specs.Printed.{Printed, printed_text, OfDirective}

-- `order` and the names of its threads, the highest priority first
abbrev pub order_words : NameLists → List ℕ → List (List ℕ)
order_words names order = codes "order" ∷ map (thread_name names) order

-- an order and the points by which it leads to the verdict
abbrev pub certificate_row_words : NameLists → CertifyRow → List (List ℕ)
certificate_row_words names row =
    order_words names row.order ++ codes "points" ∷ map decimal row.points

-- at least one in so many choices
abbrev pub bound_words : ℕ → List (List ℕ)
bound_words bound = codes "certified" ∷ codes "1" ∷ codes "in" ∷ decimal bound ∷ []

-- a line for each order and the bound; or one line that tells why there is none
abbrev pub certificate_lines : NameLists → Certified → List (List (List ℕ))
certificate_lines names (Yes bound rows) =
    map (certificate_row_words names) rows ++ bound_words bound ∷ []
certificate_lines names (Refuted order verdict) =
    (codes "refuted" ∷ order_words names order
    ++ codes "verdict" ∷ verdict_words (named_verdict names verdict)) ∷ []
certificate_lines names (TooLong order many) =
    (codes "toolong" ∷ order_words names order ++ codes "steps" ∷ decimal many ∷ []) ∷ []
certificate_lines names (TooManyThreads threads) =
    (codes "toomany" ∷ decimal threads ∷ []) ∷ []

-- the lines of the certificate, each with its LF
abbrev pub certificate_text : NameLists → Certified → List ℕ
certificate_text names certified = flat_map line_text (certificate_lines names certified)

-- whether the answer is that the directive is certified
abbrev pub is_certified : Certified → Bool
is_certified (Yes bound rows) = true
is_certified (Refuted order verdict) = false
is_certified (TooLong order many) = false
is_certified (TooManyThreads threads) = false

-- This certificate is printed. It is done where the directive is certified.
abbrev pub printed_certificate : NameLists → Certified → Printed
printed_certificate names certified =
    printed_text (certificate_text names certified) (is_certified certified)

-- the certificate of the directive over the script
abbrev pub PrintsCertificate : ScriptText → Deal → ℕ → ℕ → Directive → Printed → Type 0
PrintsCertificate script deal steps limit directive printed =
    (certified : Certified)
    × Certifies deal (bodies_of script) directive steps limit certified
    × (printed ≡ printed_certificate script.names certified)

-- the certificate of the directive that these bytes are, or their fault
abbrev pub OfCertify : List ℕ → ℕ → ℕ → ScriptText → Deal → Printed → Type 0
OfCertify bytes steps limit script deal printed =
    OfDirective bytes script.names (PrintsCertificate script deal steps limit) printed
