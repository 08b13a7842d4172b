-- Its length is that of an order of the threads.
use Rattle.std.proofs.Common.{◌<◌, arith, rules}
use Rattle.c_tells.proofs.OrderLengths.{order_long}
use Rattle.c_tells.proofs.orders.order_told.Goals as goal

pub returns : goal.returns
returns c =
    let within : c.args.low < c.args.threads = omega arith in
    record {
      threads_few = c.are_few.ensures.0 (search rules);
      low_thread = within;
      within = omega (arith, c.order_count.ensures);
      whole = search rules;
      long =
          order_long c.args.threads c.args.low c.args.place c.in_ok-low_order_at.field-0 within
          c.in_ok-low_order_at.ensures;
      stands = c.in_ok-low_order_at.ensures;
    }
