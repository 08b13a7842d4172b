-- Reading a script from its first line to its last.
use Rattle.std.specs.Prelude.{ℕ, ℤ, pos, ◌+◌, ◌&&◌, nat_lt, if◌then◌else◌, Bool, true}
use Rattle.std.specs.Prelude.{false, not, ◌==◌, List, [], ◌∷◌, ◌++◌, length, Option, Some, None}
use Rattle.std.specs.Prelude.{is_some, unwrap_or, Result, Ok, Err}
use Rattle.std.specs.Option.{option_map, option_and_then}
use Rattle.std.specs.Str.{is_utf8}
use Rattle.pct_ask.specs.Lines.{lines_of}
use Rattle.pct_ask.specs.Tokens.{Token, tokens_of}
use Rattle.pct_ask.specs.NameLists.{NameLists, no_names, list_of, with_name, place_of}
use Rattle.pct_ask.specs.declared.names.NameKind.{NameKind}
use Rattle.pct_ask.specs.declared.names.NameKind.TheVariants as kinds
use Rattle.pct_ask.specs.declared.statement_verbs.OnVerb.{OnVerb}
use Rattle.pct_ask.specs.declared.statement_verbs.IntoVerb.{IntoVerb}
use Rattle.pct_ask.specs.declared.statement_verbs.OnVerb.TheVariants as on_verbs
use Rattle.pct_ask.specs.declared.statement_verbs.IntoVerb.TheVariants as into_verbs
use Rattle.pct_ask.specs.declared.limits.TheConstants.{MAX_LINES}
use Rattle.pct_ask.specs.StatementVerbs.{on_kind, into_kind}
use Rattle.script_tree.specs.Trees.{Statement, Statements, closed_at}
use Rattle.script_tree.specs.Trees as trees
use Rattle.script_tree.specs.ScriptText.{ScriptText}
use Rattle.script_tree.specs.declared.fault.ScriptFault.{ScriptFault}
use Rattle.script_tree.specs.declared.fault.ScriptFault.TheVariants.{NotUtf8, LineTooLong}
use Rattle.script_tree.specs.declared.fault.ScriptFault.TheVariants.{TooManyLines, BadHeader}
use Rattle.script_tree.specs.declared.fault.ScriptFault.TheVariants.{BadToken, BadStatement}
use Rattle.script_tree.specs.declared.fault.ScriptFault.TheVariants.{UnknownName, TwiceNamed}
use Rattle.script_tree.specs.declared.fault.ScriptFault.TheVariants.{NumberRange, NoEnd, StrayEnd}
use Rattle.script_tree.specs.declared.fault.ScriptFault.TheVariants.{NoThread, TooMany}
use Rattle.script_tree.specs.Forms.{MeantForm, value_in}
use Rattle.script_tree.specs.Forms as forms
use Rattle.script_tree.specs.Lines.{version_in, threads_begun}
use Rattle.script_tree.specs.Ranges.{is_out_of_range}
use Rattle.script_tree.specs.Faults.{SoFar, are_blank, may_stand, uses_unknown, declares_again}
use Rattle.script_tree.specs.Faults.{leaves_open, closes_nothing, lacks_thread, is_too_many}
use Rattle.script_parse.specs.Part.{Opening, Thread, If, Else, While, Open, ReadPart}
use Rattle.script_parse.specs.Saying.{form_in}

-- ---- what a form asks of what was read

-- a list without items
abbrev pub is_empty : {X : Type 0} → List X → Bool
is_empty xs = length xs == 0

-- the block is an `if` without `else`
abbrev pub is_if : Opening → Bool
is_if (If line test) = true
is_if opening = false

-- the innermost of the open blocks is an `if` without `else`
abbrev pub is_in_if : List Open → Bool
is_in_if [] = false
is_in_if (block ∷ blocks) = is_if block.opening

-- what the lines that were read have declared and begun
abbrev pub so_far_in : ReadPart → SoFar
so_far_in part = record {
  version = part.version;
  names = part.names;
  depth = length part.open_blocks;
  in_if = is_in_if part.open_blocks;
}

-- where a thread stands among those of the whole file, by its name
abbrev pub Finder : Type 0
Finder = List ℕ → Option ℕ

-- Where a name of this kind stands among those of its kind: a thread's among those of the whole
-- file.
abbrev pub place_in : NameLists → Finder → NameKind → List ℕ → Option ℕ
place_in names find kinds.Thread name = find name
place_in names find kind name = place_of name (list_of kind names)

-- a name of this kind was declared, a thread on any line of the file
abbrev pub is_known_name : NameLists → Finder → NameKind → List ℕ → Bool
is_known_name names find kind name = is_some (place_in names find kind name)

-- the first fault of a line of this form; `last` tells whether it is the last line
abbrev pub form_fault : ReadPart → Finder → Bool → List Token → MeantForm → Option ScriptFault
form_fault part find last tokens form =
    if not (may_stand (so_far_in part) form) then Some BadStatement
    else (if uses_unknown (is_known_name part.names find) form then Some UnknownName
    else (if declares_again (so_far_in part) form then Some TwiceNamed
    else (if is_out_of_range tokens form then Some NumberRange
    else (if last && leaves_open (so_far_in part) tokens then Some NoEnd
    else (if closes_nothing (so_far_in part) form then Some StrayEnd
    else (if last && lacks_thread (so_far_in part) tokens then Some NoThread
    else (if is_too_many (so_far_in part) form then Some TooMany
    else None)))))))

-- ---- one form more

abbrev pub on_statement : OnVerb → ℕ → ℕ → Statement
on_statement on_verbs.Lock line place = trees.Lock line place
on_statement on_verbs.Unlock line place = trees.Unlock line place
on_statement on_verbs.Signal line place = trees.Signal line place
on_statement on_verbs.Broadcast line place = trees.Broadcast line place
on_statement on_verbs.Down line place = trees.Down line place
on_statement on_verbs.Up line place = trees.Up line place
on_statement on_verbs.Join line place = trees.Join line place
on_statement on_verbs.Start line place = trees.Start line place
on_statement on_verbs.RdLock line place = trees.RdLock line place
on_statement on_verbs.WrLock line place = trees.WrLock line place
on_statement on_verbs.RwUnlock line place = trees.RwUnlock line place

abbrev pub into_statement : IntoVerb → ℕ → ℕ → ℕ → Statement
into_statement into_verbs.Read line reg place = trees.Read line reg place
into_statement into_verbs.TryLock line reg place = trees.TryLock line reg place
into_statement into_verbs.TryDown line reg place = trees.TryDown line reg place
into_statement into_verbs.Arrive line reg place = trees.Arrive line reg place
into_statement into_verbs.TryRdLock line reg place = trees.TryRdLock line reg place
into_statement into_verbs.TryWrLock line reg place = trees.TryWrLock line reg place

-- the statement on a line, where the names that it uses are known and it opens and closes no block
abbrev pub statement_on : NameLists → Finder → ℕ → MeantForm → Option Statement
statement_on names find line (forms.On verb object) =
    option_map (on_statement verb line) (place_in names find (on_kind verb) object)
statement_on names find line (forms.Into verb register object) =
    option_map (into_statement verb line register) (place_in names find (into_kind verb) object)
statement_on names find line (forms.Write var value) =
    option_map (λ x. trees.Write line x value) (place_in names find kinds.Var var)
statement_on names find line (forms.Add register var value) =
    option_map (λ x. trees.Add line register x value) (place_in names find kinds.Var var)
statement_on names find line (forms.Cas register var old new) =
    option_map (λ x. trees.Cas line register x old new) (place_in names find kinds.Var var)
statement_on names find line (forms.Wait cond mutex) =
    option_and_then (λ c. option_map (trees.Wait line c) (place_in names find kinds.Mutex mutex))
    (place_in names find kinds.Cond cond)
statement_on names find line forms.Yield = Some (trees.Yield line)
statement_on names find line (forms.Assert test) = Some (trees.Assert line test)
statement_on names find line (forms.Set register value) = Some (trees.Set line register value)
statement_on names find line form = None

-- the open blocks with one more statement in the innermost
abbrev pub with_statement : Statement → List Open → List Open
with_statement statement [] = []
with_statement statement (block ∷ blocks) =
    record block { done = block.done ++ statement ∷ [] } ∷ blocks

abbrev pub part_with_statement : ReadPart → Option Statement → ReadPart
part_with_statement part None = part
part_with_statement part (Some statement) =
    record part { open_blocks = with_statement statement part.open_blocks }

abbrev pub with_block : ReadPart → Opening → ReadPart
with_block part opening =
    record part { open_blocks = record { opening = opening; done = [] } ∷ part.open_blocks }

-- a block that began so is closed
abbrev pub closed_block : ReadPart → Opening → Statements → ReadPart
closed_block part (Thread line) block =
    record part { threads = part.threads ++ record { line = line; body = block } ∷ [] }
closed_block part (If line test) block = part_with_statement part (Some (trees.If line test block))
closed_block part (Else line test first) block =
    part_with_statement part (Some (trees.IfElse line test first block))
closed_block part (While line test) block =
    part_with_statement part (Some (trees.While line test block))

abbrev pub with_end : ReadPart → List Open → ℕ → ReadPart
with_end part [] line = part
with_end part (block ∷ blocks) line =
    closed_block (record part { open_blocks = blocks }) block.opening (closed_at line block.done)

abbrev pub turned_by : ReadPart → Open → List Open → ℕ → Opening → ReadPart
turned_by part block blocks end (If line test) =
    with_block (record part { open_blocks = blocks }) (Else line test (closed_at end block.done))
turned_by part block blocks end opening = part

abbrev pub with_else : ReadPart → List Open → ℕ → ReadPart
with_else part [] line = part
with_else part (block ∷ blocks) line = turned_by part block blocks line block.opening

abbrev pub with_first_value : NameKind → ℤ → ReadPart → ReadPart
with_first_value kinds.Var value part = record part { vars = part.vars ++ value ∷ [] }
with_first_value kinds.Sem value part = record part { sems = part.sems ++ value ∷ [] }
with_first_value kinds.Barrier value part = record part { barriers = part.barriers ++ value ∷ [] }
with_first_value kind value part = part

abbrev pub with_declared : ReadPart → NameKind → List ℕ → ReadPart
with_declared part kind name = record part { names = with_name kind name part.names }

-- what was read, with a line of this form that has no fault
abbrev pub with_form : ReadPart → Finder → ℕ → MeantForm → ReadPart
with_form part find line (forms.Plain kind name) = with_declared part kind name
with_form part find line (forms.Valued kind name value) =
    with_first_value kind (unwrap_or (value_in kind value) (pos 0)) (with_declared part kind name)
with_form part find line (forms.Thread name) =
    with_block (with_declared part kinds.Thread name) (Thread line)
with_form part find line (forms.If test) = with_block part (If line test)
with_form part find line (forms.While test) = with_block part (While line test)
with_form part find line forms.End = with_end part part.open_blocks line
with_form part find line forms.Else = with_else part part.open_blocks line
with_form part find line form = part_with_statement part (statement_on part.names find line form)

-- ---- lines

-- what may be wrong with a line by its bytes and its number alone
abbrev pub bytes_fault : ℕ → List ℕ → Option ScriptFault
bytes_fault number line =
    if not (is_utf8 line) then Some NotUtf8
    else (if nat_lt 256 (length line) then Some LineTooLong
    else (if nat_lt MAX_LINES number then Some TooManyLines
    else None))

abbrev pub first_part : ℕ → ReadPart
first_part version = record {
  version = version;
  names = no_names;
  vars = [];
  sems = [];
  barriers = [];
  threads = [];
  open_blocks = [];
}

abbrev pub after_fault : Option ScriptFault → ReadPart → Result ReadPart ScriptFault
after_fault None next = Ok next
after_fault (Some kind) next = Err kind

-- a blank line: it may be the last one
abbrev pub blank_fault : ReadPart → Bool → Option ScriptFault
blank_fault part last =
    if last && leaves_open (so_far_in part) [] then Some NoEnd
    else (if last && lacks_thread (so_far_in part) [] then Some NoThread else None)

abbrev pub form_taken : ReadPart → Finder → ℕ → Bool → List Token → Option MeantForm
    → Result ReadPart ScriptFault
form_taken part find number last tokens None = Err BadStatement
form_taken part find number last tokens (Some form) =
    after_fault (form_fault part find last tokens form) (with_form part find number form)

-- a line below the header, by its tokens
abbrev pub tokens_taken : ReadPart → Finder → ℕ → Bool → Option (List Token)
    → Result ReadPart ScriptFault
tokens_taken part find number last None = Err BadToken
tokens_taken part find number last (Some []) = after_fault (blank_fault part last) part
tokens_taken part find number last (Some (token ∷ tokens)) =
    form_taken part find number last (token ∷ tokens) (form_in part.version (token ∷ tokens))

abbrev pub part_after_header : Bool → Option ℕ → Result ReadPart ScriptFault
part_after_header last None = Err BadHeader
part_after_header last (Some version) = if last then Err NoThread else Ok (first_part version)

abbrev pub some_part : Result ReadPart ScriptFault → Result (Option ReadPart) ScriptFault
some_part (Ok part) = Ok (Some part)
some_part (Err kind) = Err kind

-- the header, or a blank line above it
abbrev pub header_taken : Bool → Option (List Token) → Result (Option ReadPart) ScriptFault
header_taken last None = Err BadHeader
header_taken last (Some []) = Ok None
header_taken last (Some (token ∷ tokens)) =
    some_part (part_after_header last (version_in (token ∷ tokens)))

abbrev pub line_said : Option ReadPart → Finder → ℕ → Bool → Option (List Token)
    → Result (Option ReadPart) ScriptFault
line_said None find number last tokens = header_taken last tokens
line_said (Some part) find number last tokens =
    some_part (tokens_taken part find number last tokens)

-- the fault of a line that can't be cut into tokens, by what was read
abbrev pub uncut_fault : Option ReadPart → ScriptFault
uncut_fault None = BadHeader
uncut_fault (Some part) = BadToken

abbrev pub unless : Option ScriptFault → Result (Option ReadPart) ScriptFault
    → Result (Option ReadPart) ScriptFault
unless None next = next
unless (Some kind) next = Err kind

-- one more line; what was read is none above the header
abbrev pub line_taken : Option ReadPart → Finder → ℕ → Bool → List ℕ
    → Result (Option ReadPart) ScriptFault
line_taken part find number last line =
    unless (bytes_fault number line) (line_said part find number last (tokens_of line))

abbrev pub script_of : ReadPart → ScriptText
script_of part = record {
  version = part.version;
  names = part.names;
  vars = part.vars;
  sems = part.sems;
  barriers = part.barriers;
  threads = part.threads;
}

abbrev pub script_at_end : Option ReadPart → Result ScriptText (ℕ × ScriptFault)
script_at_end None = Err (1, BadHeader)
script_at_end (Some part) = Ok (script_of part)

-- the script after these lines, of which the first has this number, or the first fault
abbrev pub then_read : ℕ → Result (Option ReadPart) ScriptFault
    → (Option ReadPart → Result ScriptText (ℕ × ScriptFault)) → Result ScriptText (ℕ × ScriptFault)
then_read number (Err kind) more = Err (number, kind)
then_read number (Ok next) more = more next

abbrev pub script_from : Finder → Option ReadPart → ℕ → List (List ℕ)
    → Result ScriptText (ℕ × ScriptFault)
script_from find part number [] = script_at_end part
script_from find part number (line ∷ lines) =
    then_read number (line_taken part find number (is_empty lines) line)
    (λ next. script_from find next (number + 1) lines)

-- the fault of the first line, where all lines are blank
abbrev pub blank_text_fault : List (List ℕ) → ScriptFault
blank_text_fault [] = BadHeader
blank_text_fault (line ∷ lines) = unwrap_or (bytes_fault 1 line) BadHeader

-- what a text is read as, from its first line to its last
abbrev pub read_as_script : List ℕ → Result ScriptText (ℕ × ScriptFault)
read_as_script bytes =
    if nat_lt 1048576 (length bytes) then Err (1, TooMany)
    else (if are_blank (lines_of bytes) then Err (1, blank_text_fault (lines_of bytes))
    else script_from (λ name. place_of name (threads_begun (lines_of bytes))) None 1
    (lines_of bytes))
