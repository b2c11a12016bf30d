-- The command line: the definition of the command, and the job that its matches name.
use Rattle.std.specs.Prelude.{◌≡◌, ◌↔◌, ℕ, true, false, map, List, [], ◌∷◌, Option, Some, None, Ok, codes, string_bytes}
use Rattle.std.specs.Str.Parse.{ParsesUnsigned}
use Rattle.std.specs.declared.num.ParseIntError.{ParseIntError}
use Rattle.clap.specs.Words.{App, Row, Rule, Text, first_of, one_of, new_app, new_rule, with_rule, with_subcommand}
use Rattle.clap.specs.declared.builder.ArgAction.TheVariants.{SetTrue}
use Rattle.clap.specs.declared.builder.value_parser.ValueParser.TheVariants as parser
use Rattle.hv_command.specs.declared.task.Job.{Job}
use Rattle.hv_command.specs.declared.task.Mode.{Mode}
use Rattle.hv_command.specs.declared.task.Mode.TheVariants.{Judge, Recheck, PrintDomain, PrintProblem, PrintPlan}

-- the name of the command of a mode
abbrev pub command_of : Mode → Text
command_of Judge = codes "judge"
command_of Recheck = codes "recheck"
command_of PrintDomain = codes "print-domain"
command_of PrintProblem = codes "print-problem"
command_of PrintPlan = codes "print-plan"

-- a file, which must be named
abbrev pub file_rule : Text → Rule
file_rule id = record (new_rule id) { required = true }

-- `--limit N`, with 1,000,000 where it is not given
abbrev pub limit_rule : Rule
limit_rule =
    record (new_rule (codes "limit")) {
      long = Some (codes "limit");
      defaults =
          codes "1000000" ∷ [];
      parser = Some (parser.Unsigned 0 18446744073709551615);
    }

-- a flag, as `--explain`
abbrev pub flag_rule : Text → Rule
flag_rule id = record (new_rule id) { long = Some id; action = Some SetTrue }

-- a command, given the files of a domain, a problem and a plan
abbrev pub with_plan_rules : App → App
with_plan_rules app =
    with_rule (with_rule (with_rule app (file_rule (codes "domain"))) (file_rule (codes "problem")))
    (file_rule (codes "plan"))

-- `judge [--limit N] [--explain] DOMAIN PROBLEM PLAN`
abbrev pub judge_line : App
judge_line =
    with_plan_rules
    (with_rule (with_rule (new_app (command_of Judge)) limit_rule) (flag_rule (codes "explain")))

-- `recheck [--misfit] DOMAIN PROBLEM PLAN CERTIFICATE`
abbrev pub recheck_line : App
recheck_line =
    with_rule
    (with_plan_rules (with_rule (new_app (command_of Recheck)) (flag_rule (codes "misfit"))))
    (file_rule (codes "certificate"))

-- `print-domain FILE` and its like
abbrev pub print_line : Text → App
print_line name = with_rule (new_app name) (file_rule (codes "file"))

-- the whole command, of which one subcommand must be named; it has a version
abbrev pub line : App
line =
    with_subcommand (with_subcommand (with_subcommand (with_subcommand (with_subcommand
    (record (new_app (codes "hddlv")) {
      top =
          record (new_app (codes "hddlv")).top { has_version = true; subcommand_required = true };
    })
    judge_line.top) recheck_line.top) (print_line (command_of PrintDomain)).top) (print_line
    (command_of PrintProblem)).top) (print_line (command_of PrintPlan)).top

-- the number is what the text of `--limit` spells
abbrev pub HasLimit : List Row → ℕ → Type 0
HasLimit rows limit = (t : Text) × (one_of (codes "limit") rows ≡ Some t)
    × ParsesUnsigned {E = ParseIntError} 64 10 t (Ok limit)

-- the arguments that name the files of a mode, in their order
abbrev pub file_arguments : Mode → List Text
file_arguments Judge = codes "domain" ∷ codes "problem" ∷ codes "plan" ∷ []
file_arguments Recheck = codes "domain" ∷ codes "problem" ∷ codes "plan" ∷ codes "certificate" ∷ []
file_arguments _ = codes "file" ∷ []

-- the files of the job are the values of these arguments
abbrev pub HasFiles : List Text → List Row → Job → Type 0
HasFiles ids rows job =
    map (λ file. Some (string_bytes file)) job.files.items ≡ map (λ id. first_of id rows) ids

-- whether a flag of this name is given
abbrev pub IsGiven : Text → List Row → Type 0
IsGiven id rows = first_of id rows ≡ Some (codes "true")

-- the limit and the flags of the job are those of the matches where the command has them, and else
-- those of a command that gives none
abbrev pub HasOptions : Mode → List Row → Job → Type 0
HasOptions Judge rows job = HasLimit rows job.limit
    × ((job.explain ≡ true) ↔ IsGiven (codes "explain") rows) × (job.misfit ≡ false)
HasOptions Recheck rows job = (job.limit ≡ 1000000) × (job.explain ≡ false)
    × ((job.misfit ≡ true) ↔ IsGiven (codes "misfit") rows)
HasOptions _ rows job = (job.limit ≡ 1000000) × (job.explain ≡ false) × (job.misfit ≡ false)

-- the job that a subcommand and its matches name
abbrev pub IsJobOf : Option (Text × List Row) → Job → Type 0
IsJobOf None job = ⊥
IsJobOf (Some (name, rows)) job = (name ≡ command_of job.mode)
    × HasFiles (file_arguments job.mode) rows job × HasOptions job.mode rows job
