-- How the program ends.
use Rattle.std.specs.Prelude.{ℕ, List, [], ◌++◌, codes}
use Rattle.hv_answer.specs.declared.answer.Kind.TheVariants as kinds
use Rattle.hv_judge.specs.declared.printing.Printed.TheVariants as printed
use Rattle.hv_judge.specs.declared.rechecking.RecheckKind.TheVariants as rechecked
use Rattle.hddlv.specs.declared.end.End.{End}
use Rattle.hddlv.specs.declared.end.End.TheVariants.{Judged, Rechecked, Printed, Words, NotUtf8, Missing, CannotRead, CannotWrite, OutOfMemory}

-- the exit status
abbrev pub status_of : End → ℕ
status_of (Judged kinds.Solves) = 0
status_of (Judged kinds.Fails) = 1
status_of (Judged kinds.Undecided) = 2
status_of (Judged kinds.Rejected) = 3
status_of (Rechecked rechecked.Certified) = 0
status_of (Rechecked rechecked.NotCertified) = 1
status_of (Rechecked rechecked.Rejected) = 3
status_of (Printed printed.Done) = 0
status_of (Printed printed.Rejected) = 3
status_of Words = 4
status_of NotUtf8 = 4
status_of Missing = 4
status_of (CannotRead name) = 5
status_of CannotWrite = 5
status_of OutOfMemory = 5

-- the line on standard error
abbrev pub line_of : End → List ℕ
line_of (Judged kind) = []
line_of (Rechecked kind) = []
line_of (Printed end) = []
line_of Words = []
line_of NotUtf8 = codes "hddlv: a word of the command line is not UTF-8\n"
line_of Missing = codes "hddlv: the command line lacks a command or a value\n"
line_of (CannotRead name) = codes "hddlv: cannot read " ++ (name.now ++ codes "\n")
line_of CannotWrite = codes "hddlv: cannot write\n"
line_of OutOfMemory = codes "hddlv: out of memory\n"
