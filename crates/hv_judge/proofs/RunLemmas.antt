-- What a run wrote, by what its readers' bytes allow.
use Rattle.std.proofs.Common.{◌≡◌, ℕ, Bool, true, false, List, Option, Result, Ok, Err, refl, sym, subst}
use Rattle.hv_text.specs.Io.{IsRead, IsReadFault}
use Rattle.hv_text.specs.declared.fault.TheConstants.{MOST_BYTES}
use Rattle.hv_text.specs.declared.io.ReadFault.{ReadFault}
use Rattle.hv_text.specs.declared.io.ReadFault.TheVariants as reads
use Rattle.hv_answer.specs.declared.answer.Answer.{Answer}
use Rattle.hv_answer.specs.declared.answer.Verdict.{Verdict}
use Rattle.hv_answer.specs.declared.answer.Which.{Which}
use Rattle.hv_answer.specs.declared.answer.Which.TheVariants as texts
use Rattle.hv_answer.specs.declared.answer.Kind.{Kind}
use Rattle.hv_judge.specs.declared.running.RunFault.{RunFault}
use Rattle.hv_judge.specs.declared.running.RunFault.TheVariants as runs
use Rattle.hv_judge.specs.Verdicts.{HasVerdict, Judged}
use Rattle.hv_judge.specs.Runs.{Wrote, IsSaid, IsTextOf, IsExplained, IsUnread, ComesOf, text_read, text_too_long}
use Rattle.hv_judge.specs.Runs.{IfHalted, IsFailedRead, IsFailureOf, IsWant, IsHaltOfText, text_failed, text_given, IsHaltOfProblem, problem_failed, problem_given, IsHaltOf, domain_failed, domain_given}

-- what was written is also what a weaker demand allows
pub wrote_as : {W K : Type 0} (P Q : K → List ℕ → Type 0) (taken : W → Option (List ℕ)) (old new : W) (r : Result K RunFault)
    → ((k : K) (text : List ℕ) → P k text → Q k text) → Wrote P taken old new r → Wrote Q taken old new r
wrote_as P Q taken old new (Ok k) f (text, p, w) = (text, f k text p, w)
wrote_as P Q taken old new (Err (runs.Read w)) f h = h
wrote_as P Q taken old new (Err runs.Memory) f h = h
wrote_as P Q taken old new (Err runs.Write) f (k, text, p, w) = (k, text, f k text p, w)

-- what is said of three texts
module _ (domain problem plan : List ℕ) (limit : ℕ) where
  pub said_explained : (explain : Bool) → explain ≡ true → (a : Answer) → Judged domain problem plan limit a
      → (k : Kind) (text : List ℕ) → IsExplained a k text → IsSaid domain problem plan limit explain k text
  said_explained explain on a judged k text is =
      subst (λ b. IsSaid domain problem plan limit b k text) (sym on) (a, judged, is)

  pub said_verdict : (explain : Bool) → explain ≡ false → (v : Verdict) → HasVerdict domain problem plan limit v
      → (k : Kind) (text : List ℕ) → IsTextOf v k text → IsSaid domain problem plan limit explain k text
  said_verdict explain off v has k text is =
      subst (λ b. IsSaid domain problem plan limit b k text) (sym off) (v, has, is)

-- a reader that gave its text, of which `handed` is what was handed on
pub from_read : {R K : Type 0} (w : Which) (left : R → Option (List ℕ)) (r r' : R) (Alone : Type 0) (rejected : K)
    (Next : List ℕ → K → List ℕ → Type 0) (text handed : List ℕ) → handed ≡ text
    → IsRead (left r) (left r') MOST_BYTES text
    → (k : K) (line : List ℕ) → Next handed k line → ComesOf w left r r' Alone rejected Next k line
from_read w left r r' Alone rejected Next text handed e read k line h =
    text_read text k line read (subst (λ t. Next t k line) e h)

-- one that gave too much
pub from_unread : {R K : Type 0} (w : Which) (left : R → Option (List ℕ)) (r r' : R) (Alone : Type 0) (rejected : K)
    (Next : List ℕ → K → List ℕ → Type 0) (fault : ReadFault)
    → IsReadFault (left r) (left r') MOST_BYTES fault → Alone
    → (k : K) (line : List ℕ) → IsUnread rejected w fault k line
    → ComesOf w left r r' Alone rejected Next k line
from_unread w left r r' Alone rejected Next fault h alone k line (long, (kind, is)) =
    subst (λ x. ComesOf w left r r' Alone rejected Next x line) (sym kind)
    (subst (λ y. ComesOf w left r r' Alone rejected Next rejected y) (sym is)
    (text_too_long (subst (IsReadFault (left r) (left r') MOST_BYTES) long h) alone))

-- why nothing was given is also what a weaker demand allows
pub halted_as : {K : Type 0} (P Q : RunFault → Type 0) (r : Result K RunFault) → ((f : RunFault) → P f → Q f) → IfHalted P r → IfHalted Q r
halted_as P Q (Ok k) g h = tt
halted_as P Q (Err (runs.Read w)) g h = g (runs.Read w) h
halted_as P Q (Err runs.Memory) g h = g runs.Memory h
halted_as P Q (Err runs.Write) g h = tt

pub never_halted : {K : Type 0} (Q : RunFault → Type 0) (r : Result K RunFault) → IfHalted (λ f. ⊥) r → IfHalted Q r
never_halted Q r h = halted_as (λ f. ⊥) Q r (λ f bad. absurd bad) h

pub failed_read : (w : Which) (old new : Option (List ℕ)) (fault : ReadFault) → IsReadFault old new MOST_BYTES fault
    → (f : RunFault) → IsFailureOf w fault f → IsFailedRead w old new f
failed_read w old new reads.Device h f is = subst (IsFailedRead w old new) (sym is) (refl, h)
failed_read w old new reads.TooLong h f is = absurd is
failed_read w old new reads.Memory h f is = subst (IsFailedRead w old new) (sym is) h

-- a reader that was not read to its end, with the ones behind it
pub halted_text : {R : Type 0} (w : Which) (left : R → Option (List ℕ)) (r r' : R) (fault : ReadFault) → IsReadFault (left r) (left r') MOST_BYTES fault
    → (f : RunFault) → IsFailureOf w fault f → IsHaltOfText w left r r' f
halted_text w left r r' fault h f is = text_failed f (failed_read w (left r) (left r') fault h f is)

pub halted_problem : {B C : Type 0} (left_b : B → Option (List ℕ)) (b b' : B) (left : C → Option (List ℕ)) (c : C) (fault : ReadFault)
    → IsReadFault (left_b b) (left_b b') MOST_BYTES fault
    → (f : RunFault) → IsFailureOf texts.Problem fault f → IsHaltOfProblem left_b b b' left c c f
halted_problem left_b b b' left c fault h f is = problem_failed f (failed_read texts.Problem (left_b b) (left_b b') fault h f is) refl

pub halted_domain : {A B C : Type 0} (left_a : A → Option (List ℕ)) (a a' : A) (left_b : B → Option (List ℕ)) (b : B) (left : C → Option (List ℕ)) (c : C) (fault : ReadFault)
    → IsReadFault (left_a a) (left_a a') MOST_BYTES fault
    → (f : RunFault) → IsFailureOf texts.Domain fault f → IsHaltOf left_a a a' left_b b b left c c f
halted_domain left_a a a' left_b b left c fault h f is = domain_failed f (failed_read texts.Domain (left_a a) (left_a a') fault h f is) refl refl

-- a growth that was refused behind the last reader
pub wanted : {R : Type 0} (w : Which) (left : R → Option (List ℕ)) (r r' : R) (text : List ℕ) → IsRead (left r) (left r') MOST_BYTES text
    → (f : RunFault) → IsWant f → IsHaltOfText w left r r' f
wanted w left r r' text h f is = subst (IsHaltOfText w left r r') (sym is) (text_given text h)

-- a reader that was read to its end, with the ones behind it
pub given_problem : {B C : Type 0} (left_b : B → Option (List ℕ)) (b b' : B) (left : C → Option (List ℕ)) (c c' : C) (problem : List ℕ)
    → IsRead (left_b b) (left_b b') MOST_BYTES problem
    → (f : RunFault) → IsHaltOfText texts.Plan left c c' f → IsHaltOfProblem left_b b b' left c c' f
given_problem left_b b b' left c c' problem h f halt = problem_given problem f h halt

pub given_domain : {A B C : Type 0} (left_a : A → Option (List ℕ)) (a a' : A) (left_b : B → Option (List ℕ)) (b b' : B) (left : C → Option (List ℕ)) (c c' : C) (domain : List ℕ)
    → IsRead (left_a a) (left_a a') MOST_BYTES domain
    → (f : RunFault) → IsHaltOfProblem left_b b b' left c c' f → IsHaltOf left_a a a' left_b b b' left c c' f
given_domain left_a a a' left_b b b' left c c' domain h f halt = domain_given domain f h halt
