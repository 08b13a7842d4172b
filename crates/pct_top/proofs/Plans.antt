-- The settings that ask for a job over the script of a file.
use Rattle.std.proofs.Common.{◌≡◌, ℕ, List, Some, refl, take}
use Rattle.pct_top.specs.declared.job.Job.{Job}
use Rattle.pct_top.specs.declared.job.Job.TheVariants.{Ordered, Seeded, Campaign, Replay, Expose}
use Rattle.pct_top.specs.declared.job.Job.TheVariants.{Certify, Sweep}
use Rattle.pct_top.specs.Plan.{asked}
use Rattle.pct_top.specs.Printed.{NamedFiles, script_bytes}
use Rattle.pct_top.specs.Output.{script_file, script_text}

pub asked_file : (file : List ℕ) (job : Job) → script_file (asked file job) ≡ Some file
asked_file file (Ordered run) = refl
asked_file file (Seeded run) = refl
asked_file file (Campaign campaign) = refl
asked_file file (Replay replay) = refl
asked_file file (Expose expose) = refl
asked_file file (Certify certify) = refl
asked_file file (Sweep sweep) = refl

pub asked_text : (file : List ℕ) (job : Job)
    → script_text (asked file job) ≡ (λ (files : NamedFiles). take script_bytes (files file))
asked_text file (Ordered run) = refl
asked_text file (Seeded run) = refl
asked_text file (Campaign campaign) = refl
asked_text file (Replay replay) = refl
asked_text file (Expose expose) = refl
asked_text file (Certify certify) = refl
asked_text file (Sweep sweep) = refl
