use Rattle.c_texts.specs.Directives.{IsDirectiveText}
use Rattle.pct_c.proofs.BufferLaws.{puts}
use Rattle.pct_c.proofs.texts.pct_text_directive.Goals as goal

pub returns : goal.returns
returns c =
    let a = c.args in
    puts (IsDirectiveText a.names.now a.directive.now)
    c.directive_text_told-told.result c.put.result.status c.put.result.count a.text.now
    c.put.new.buffer
    c.directive_text_told-told.ensures c.put.ensures
