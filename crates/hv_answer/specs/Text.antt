-- The text of a verdict and of an answer.
use Rattle.std.specs.Prelude.{ℕ, Bool, true, false, List, [], ◌∷◌, ◌++◌, Option, None, Some, codes, decimal}
use Rattle.hv_certificate.specs.Texts.{joined, certificate_text}
use Rattle.hv_answer.specs.Kinds.{which_name, fault_number, fault_name, cause_number, cause_name, verdict_of}
use Rattle.hv_answer.specs.declared.answer.Place.{Place}
use Rattle.hv_answer.specs.declared.answer.Place.TheVariants.{Nowhere, Line, At}
use Rattle.hv_answer.specs.declared.answer.Which.{Which}
use Rattle.hv_answer.specs.declared.answer.Fault.{Fault}
use Rattle.hv_answer.specs.declared.answer.Cause.{Cause}
use Rattle.hv_answer.specs.declared.answer.Answer.{Answer}
use Rattle.hv_answer.specs.declared.answer.Answer.TheVariants as answers
use Rattle.hv_answer.specs.declared.answer.Verdict.{Verdict}
use Rattle.hv_answer.specs.declared.answer.Verdict.TheVariants.{Solves, Fails, Undecided, Rejected}

-- where a cause stands
abbrev pub line_text : Option ℕ → List ℕ
line_text None = []
line_text (Some line) = joined (codes " line " ∷ decimal line ∷ [])

-- where a fault stands
abbrev pub place_text : Place → List ℕ
place_text Nowhere = []
place_text (Line line) = joined (codes " line " ∷ decimal line ∷ [])
place_text (At line column) = joined (codes " " ∷ decimal line ∷ codes ":" ∷ decimal column ∷ [])

-- why a plan fails
abbrev pub cause_text : Cause → List ℕ
cause_text c =
    joined (codes "fails " ∷ decimal (cause_number c.kind) ∷ codes " " ∷ cause_name c.kind ∷ [])
    ++ line_text c.line

-- why a text is rejected
abbrev pub fault_text : Which → Fault → List ℕ
fault_text w f =
    joined (codes "rejected " ∷ which_name w ∷ codes " " ∷ decimal (fault_number f.kind)
    ∷ codes " " ∷ fault_name f.kind ∷ [])
    ++ place_text f.place

-- that a plan does not solve its problem by a certificate, and on which line of it this is seen
abbrev pub refusal_text : Option ℕ → List ℕ
refusal_text None = codes "not certified\n"
refusal_text (Some line) = joined (codes "not certified line " ∷ decimal line ∷ codes "\n" ∷ [])

-- the line of a verdict, without its end
abbrev pub verdict_words : Verdict → List ℕ
verdict_words Solves = codes "solves"
verdict_words (Fails c) = cause_text c
verdict_words (Undecided line) = joined (codes "undecided line " ∷ decimal line ∷ [])
verdict_words (Rejected w f) = fault_text w f

-- the whole text of a verdict
abbrev pub verdict_text : Verdict → List ℕ
verdict_text v = verdict_words v ++ codes "\n"

-- what is explained: the certificate, where there is one
abbrev pub explanation : Answer → List ℕ
explanation (answers.Solves c) = certificate_text c
explanation (answers.Fails c) = []
explanation (answers.Undecided line) = []
explanation (answers.Rejected w f) = []

-- the whole text of an answer: that of its verdict, with or without what is explained
abbrev pub answer_text : Answer → Bool → List ℕ
answer_text a true = verdict_text (verdict_of a) ++ explanation a
answer_text a false = verdict_text (verdict_of a)
