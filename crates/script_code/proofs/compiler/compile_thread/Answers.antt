use Rattle.std.proofs.Common.{ℕ, ◌+◌, ap, ap₂, ◌∙◌}
use Rattle.script_code.specs.Operations.{operations}
use Rattle.script_code.proofs.Threads.{thread_made}
use Rattle.script_code.proofs.compiler.compile_thread.Goals as goal

pub returns : goal.returns
returns c =
    ap operations c.from_vec.ensures
    ∙ thread_made c.args.held c.args.text.now c.in_ok-ops.ops.items c.emit_block.new.ops.items
    c.push.new.self.items _
    c.in_ok-ops.ensures
    (ap₂ (λ (k n : ℕ). k + n) (c.len.ensures ∙ c.in_ok-ops.ops.ok.0) c.counts_of.ensures)
    c.in_ok-emit_block.ensures
    c.in_ok-push.ensures.items
