-- Which readers a run can blame.
use Rattle.std.proofs.Common.{◌≡◌, ◌≢◌, ◌⊎◌, inl, inr, ℕ, List, Option, Result, Ok, Err, IfErr}
use Rattle.hv_answer.specs.declared.answer.Kind.{Kind}
use Rattle.hv_answer.specs.declared.answer.Which.{Which}
use Rattle.hv_answer.specs.declared.answer.Which.TheVariants as texts
use Rattle.hv_judge.specs.declared.running.RunFault.{RunFault}
use Rattle.hv_judge.specs.declared.running.RunFault.TheVariants as faults
use Rattle.hv_judge.specs.Runs.{IfHalted, IsFailedRead, IsHaltOfText, text_failed, text_given, IsHaltOfProblem, problem_failed, problem_given, IsHaltOf, domain_failed, domain_given}

-- the reader of a text is blamed for no other
only_own : (w : Which) (old new : Option (List ℕ)) (fault : RunFault) → w ≢ texts.Certificate → IsFailedRead w old new fault
    → fault ≢ faults.Read texts.Certificate
only_own w old new (faults.Read v) other (is, read) e = other (cc)
only_own w old new faults.Memory other failed e = cc
only_own w old new faults.Write other failed e = absurd failed

blames_plan : {C : Type 0} (left : C → Option (List ℕ)) (c c' : C) (fault : RunFault) → IsHaltOfText texts.Plan left c c' fault
    → fault ≢ faults.Read texts.Certificate
blames_plan left c c' fault (text_failed _ failed) e = only_own texts.Plan (left c) (left c') fault (λ same. cc) failed e
blames_plan left c c' _ (text_given text read) e = cc

blames_problem : {B C : Type 0} (left_b : B → Option (List ℕ)) (b b' : B) (left_c : C → Option (List ℕ)) (c c' : C) (fault : RunFault)
    → IsHaltOfProblem left_b b b' left_c c c' fault → fault ≢ faults.Read texts.Certificate
blames_problem left_b b b' left_c c c' fault (problem_failed _ failed alone) e = only_own texts.Problem (left_b b) (left_b b') fault (λ same. cc) failed e
blames_problem left_b b b' left_c c c' fault (problem_given problem _ read halt) e = blames_plan left_c c c' fault halt e

blames_domain : {A B C : Type 0} (left_a : A → Option (List ℕ)) (a a' : A) (left_b : B → Option (List ℕ)) (b b' : B)
    (left_c : C → Option (List ℕ)) (c c' : C) (fault : RunFault) → IsHaltOf left_a a a' left_b b b' left_c c c' fault
    → fault ≢ faults.Read texts.Certificate
blames_domain left_a a a' left_b b b' left_c c c' fault (domain_failed _ failed alone_b alone_c) e = only_own texts.Domain (left_a a) (left_a a') fault (λ same. cc) failed e
blames_domain left_a a a' left_b b b' left_c c c' fault (domain_given domain _ read halt) e = blames_problem left_b b b' left_c c c' fault halt e

-- no run over a domain, a problem and a plan blames the reader of a certificate
pub blames_no_certificate : {A B C : Type 0} (left_a : A → Option (List ℕ)) (a a' : A) (left_b : B → Option (List ℕ)) (b b' : B)
    (left_c : C → Option (List ℕ)) (c c' : C) (r : Result Kind RunFault)
    → IfHalted (IsHaltOf left_a a a' left_b b b' left_c c c') r → IfErr r (λ fault. fault ≢ faults.Read texts.Certificate)
blames_no_certificate left_a a a' left_b b b' left_c c c' (Ok kind) halt = tt
blames_no_certificate left_a a a' left_b b b' left_c c c' (Err (faults.Read w)) halt = blames_domain left_a a a' left_b b b' left_c c c' (faults.Read w) halt
blames_no_certificate left_a a a' left_b b b' left_c c c' (Err faults.Memory) halt = λ e. cc
blames_no_certificate left_a a a' left_b b b' left_c c c' (Err faults.Write) halt = λ e. cc

-- what ends behind a run is blamed on the writer alone, or as the run is
pub blamed_behind : {K : Type 0} (ended r : Result K RunFault) → IfErr ended (λ fault. fault ≢ faults.Read texts.Certificate)
    → IfErr r (λ fault. (fault ≡ faults.Write) ⊎ (ended ≡ Err fault)) → IfErr r (λ fault. fault ≢ faults.Read texts.Certificate)
blamed_behind ended (Ok k) before how = tt
blamed_behind ended (Err f) before (inl is) = λ e. let same : faults.Read texts.Certificate ≡ faults.Write = cc in cc
blamed_behind (Err f) (Err g) before (inr is) = λ e. let same : f ≡ g = cc in before (cc)
blamed_behind (Ok k) (Err g) before (inr is) = λ e. cc
