-- Which settings ask for a plan.
use Rattle.std.specs.Prelude.{ℕ, List}
use Rattle.pct_top.specs.declared.settings.Settings.{Settings}
use Rattle.pct_top.specs.declared.settings.Settings.TheVariants as settings
use Rattle.pct_top.specs.declared.job.Job.{Job}
use Rattle.pct_top.specs.declared.job.Job.TheVariants as jobs
use Rattle.pct_top.specs.declared.plan.Plan.{Plan}
use Rattle.pct_top.specs.declared.plan.Plan.TheVariants.{Big, OfFile}

-- the settings that ask for a job over the script of the file of this name
abbrev pub asked : List ℕ → Job → Settings
asked file (jobs.Ordered run) =
    settings.RunOrder file run.order run.word run.points run.limit run.report
asked file (jobs.Seeded run) =
    settings.RunSeed file run.seed run.depth run.steps run.limit run.report
asked file (jobs.Campaign job) =
    settings.Campaign file job.first job.count job.depth job.steps job.limit job.json
    job.serve
asked file (jobs.Replay job) = settings.Replay file job.trace
asked file (jobs.Expose job) =
    settings.Expose file job.directive job.order job.word job.steps job.limit
asked file (jobs.Certify job) =
    settings.Certify file job.directive job.steps job.limit job.serve
asked file (jobs.Sweep job) =
    settings.Sweep file job.depth job.steps job.limit job.json job.serve

-- the settings that ask for a plan
abbrev pub asked_by : Plan → Settings
asked_by (Big pieces serve) = settings.Big pieces serve
asked_by (OfFile file job) = asked file job
