-- The second line is the first piece of what is left.
use Rattle.std.proofs.Common.{ap, sym, ◌∙◌, Ok}
use Rattle.pct_ask.specs.Pieces.{pieces_of}
use Rattle.trace_text.specs.reader.Reading.{◌>>=◌, known_order}
use Rattle.trace_text.proofs.HeadWords.{order_line-found}
use Rattle.trace_text.proofs.head.read_order.Goals as goal

pub returns-in-Some : goal.returns-in-Some
returns-in-Some c =
    order_line-found c.args.names.now _ c.cut_line.result.0.now c.cut_line.result.1 c.count.result
    c.in_ok-words.words.items c.order_names.result c.in_ok-threads.threads _
    c.cut_line.ensures.pieces c.count.ensures.count c.in_ok-words.ensures
    (rw c.as_slice.ensures.value at c.order_names.ensures) c.in_ok-threads.ensures
    ∙ ap (λ order. known_order order >>= λ o. Ok (o, pieces_of c.in_ok-threads.after.now))
    (sym c.in_ok-order.ensures ∙ c.in-Some.is)

pub returns : goal.returns
returns c =
    order_line-found c.args.names.now _ c.cut_line.result.0.now c.cut_line.result.1 c.count.result
    c.in_ok-words.words.items c.order_names.result c.in_ok-threads.threads _
    c.cut_line.ensures.pieces c.count.ensures.count c.in_ok-words.ensures
    (rw c.as_slice.ensures.value at c.order_names.ensures) c.in_ok-threads.ensures
    ∙ ap (λ order. known_order order >>= λ o. Ok (o, pieces_of c.in_ok-threads.after.now))
    (sym c.in_ok-order.ensures ∙ c.in-None.is)
