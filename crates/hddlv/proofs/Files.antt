-- How many files a job has.
use Rattle.std.proofs.Common.{◌≡◌, List, Option, None, Some, Result, Ok, Err, IfOk, length, string_bytes, sym, ◌∙◌, ap}
use Rattle.std.proofs.lemmas.List.{length-map}
use Rattle.clap.specs.Words.{Row, Text, first_of}
use Rattle.hv_command.specs.Line.{file_arguments, IsJobOf}
use Rattle.hv_command.specs.declared.task.Job.{Job}

-- a job has a file for each argument that names one
pub count : (o : Option (Text × List Row)) (job : Job) → IsJobOf o job → length job.files.items ≡ length (file_arguments job.mode)
count None job bad = absurd bad
count (Some (name, rows)) job is =
    sym (length-map job.files.items (λ file. Some (string_bytes file))) ∙ (ap length is.1 ∙ length-map (file_arguments job.mode) (λ id. first_of id rows))

pub count_ok : {E : Type 0} (o : Option (Text × List Row)) (r : Result Job E) → IfOk r (IsJobOf o) → IfOk r (λ job. length job.files.items ≡ length (file_arguments job.mode))
count_ok o (Ok job) is = count o job is
count_ok o (Err e) is = tt
