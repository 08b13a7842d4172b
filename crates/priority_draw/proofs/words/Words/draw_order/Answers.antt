use Rattle.std.proofs.Common.{◌≡◌, ℕ, ◌*◌, List, length, ap, ◌∙◌, sym, subst, arith}
use Rattle.std.proofs.lemmas.Grind.{common_steps}
use Rattle.std.proofs.lemmas.List.FromFn.{length-range_with_len}
use Rattle.priority_draw.specs.Words.{SeedWords, words_later}
use Rattle.rank_now.specs.Order.{IsOrderOf}
use Rattle.priority_draw.specs.Orders.{declared_order}
use Rattle.priority_draw.specs.Drawing.{drawn_order, drawn_places}
use Rattle.priority_draw.proofs.laws.Orders.{only-places, order-of-is}
use Rattle.priority_draw.proofs.laws.Draws.{drawn-are}
use Rattle.priority_draw.proofs.words.Words.draw_order.Goals as goal

pub returns-in_err-order-clause-places : goal.returns-in_err-order-clause-places
returns-in_err-order-clause-places c =
    drawn-are c.args.self.now.seed c.args.self.now.place c.args.threads

pub returns-in_err-order-clause-each_list : goal.returns-in_err-order-clause-each_list
returns-in_err-order-clause-each_list c = λ places are. order-of-is c.args.threads places are

pub returns-in_err-order-clause-each_order : goal.returns-in_err-order-clause-each_order
returns-in_err-order-clause-each_order c = λ order is. only-places c.args.threads order is

pub take_out-requires : goal.take_out-requires
take_out-requires c =
    let is = c.deref_mut.ensures.value ∙ c.in_ok-order.ensures in
    is ∙ ap (λ (n : ℕ). declared_order n)
    (sym (ap length is ∙ length-range_with_len 0 c.args.threads))

long : (c : goal.After-from_vec) → length c.deref_mut.result.now ≡ c.args.threads
long c =
    ap length (c.deref_mut.ensures.value ∙ c.in_ok-order.ensures)
    ∙ length-range_with_len 0 c.args.threads

value : (c : goal.After-from_vec) → c.from_vec.result
    ≡ drawn_order c.args.self.now.seed c.args.self.now.place c.args.threads
value c =
    let same : c.from_vec.result ≡ c.take_out.new.threads = grind (arith, common_steps) in
    same ∙ c.take_out.ensures.order ∙ ap
    (λ (n : ℕ). drawn_order c.args.self.now.seed c.args.self.now.place n) (long c)

pub returns-clause-value : goal.returns-clause-value
returns-clause-value c = value c

pub returns-clause-order : goal.returns-clause-order
returns-clause-order c =
    let P : List ℕ → Type 0 = λ order. IsOrderOf c.args.threads order in
    subst P (sym (value c)) (order-of-is c.args.threads
    (drawn_places c.args.self.now.seed c.args.self.now.place c.args.threads)
    (drawn-are c.args.self.now.seed c.args.self.now.place c.args.threads))

pub returns-clause-words : goal.returns-clause-words
returns-clause-words c =
    c.take_out.ensures.words ∙ ap (λ (n : ℕ). words_later c.args.self.now (2 * n)) (long c)

pub returns-clause-of_seed : goal.returns-clause-of_seed
returns-clause-of_seed c =
    λ seed steps depth stand. value c
    ∙ ap (λ (w : SeedWords). drawn_order w.seed w.place c.args.threads) stand

pub returns-clause-places : goal.returns-clause-places
returns-clause-places c = drawn-are c.args.self.now.seed c.args.self.now.place c.args.threads

pub returns-clause-each_list : goal.returns-clause-each_list
returns-clause-each_list c = λ places are. order-of-is c.args.threads places are

pub returns-clause-each_order : goal.returns-clause-each_order
returns-clause-each_order c = λ order is. only-places c.args.threads order is
