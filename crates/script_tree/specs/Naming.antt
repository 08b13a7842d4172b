-- Posts that name only what the threads of a script share (this project).
use Rattle.std.specs.Prelude.{◌≤◌}
use Rattle.pct_ask.specs.declared.ask.Post.{Post}
use Rattle.pct_ask.specs.declared.deal.Deal.{Deal}
use Rattle.pct_ask.specs.Objects.{sizes_of_deal, PostIsInRange}
use Rattle.pct_ask.specs.declared.limits.TheConstants.{MAX_LINES}

-- a post on a line of a script, which names only what the deal has
pub record IsPostOf (deal : Deal) (post : Post) : Type 0 where
  pub first_line : 1 ≤ post.line
  pub last_line : post.line ≤ MAX_LINES
  pub ask : PostIsInRange (sizes_of_deal deal) post.ask
