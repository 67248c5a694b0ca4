use Rattle.std.proofs.Common.{◌≡◌, ◌<◌, ◌++◌, List, ℕ, length, ap, subst, ◌∙◌, arith}
use Rattle.std.specs.Prelude.{Some}
use Rattle.shm_audit.specs.{Faults.frame_fault_of, Frames.Announces}
use Rattle.shm_audit.specs.declared.fault.ImageFault.TheVariants as fault
use Rattle.shm_io.proofs.ReadSteps.{LosesFront-then, TakesFront-short}
use Rattle.shm_stream.proofs.Pieces.{if_ok_more, judged_short, on_err, on_err_more, whole_faulty, whole_judged}
use Rattle.shm_stream.proofs.auditing.audit_source.Goals as goal

pub returns-then-len-lt-FRAME-clause-judged : goal.returns-then-len-lt-FRAME-clause-judged
returns-then-len-lt-FRAME-clause-judged g c =
    let items = c.in_ok-frame.frame.items in
    let l = c.len.ensures in
    let m = c.len-len.ensures in
    let few = c.if-len-lt-FRAME.true in
    let short : length items < 24 = omega arith in
    let same : length items ≡ c.len-len.result = omega arith in
    (items, omega arith, TakesFront-short _ _ 24 132185377 items c.in_ok-frame.ensures.front short (omega arith), judged_short items short ∙ ap (λ n. Some (fault.Short n)) same)

pub returns-in-Ok-clause-judged : goal.returns-in-Ok-clause-judged
returns-in-Ok-clause-judged g c =
    let items = c.in_ok-frame.frame.items in
    let l = c.len.ensures in
    let all = c.if-len-lt-FRAME.false in
    let most = c.in_ok-frame.ensures.size in
    let len : length items ≡ 24 = omega arith in
    let announces = λ (rest : List ℕ). subst (λ (xs : List ℕ). Announces c.in-Ok.geometry (xs ++ rest)) c.as_slice.ensures.value (c.in-Ok.ensures.sizes rest) in
    if_ok_more c.audit_rest.result _ _ (λ judged r. whole_judged _ _ _ items c.in-Ok.geometry judged len c.in_ok-frame.ensures.front announces r) c.audit_rest.ensures.judged

pub returns-in-Ok-clause-lost : goal.returns-in-Ok-clause-lost
returns-in-Ok-clause-lost g c = on_err_more c.audit_rest.result (λ l. LosesFront-then _ _ _ 24 132185353 132185377 c.in_ok-frame.frame.items c.in_ok-frame.ensures.front l (omega arith)) c.audit_rest.ensures.lost

pub returns-in_err-skip_to_limit-in-Err-clause-lost : goal.returns-in_err-skip_to_limit-in-Err-clause-lost
returns-in_err-skip_to_limit-in-Err-clause-lost g c =
    on_err c.from_residual-in_err-skip_to_limit-in-Err.result (LosesFront-then _ _ _ 24 132185353 132185377 c.in_ok-frame.frame.items c.in_ok-frame.ensures.front c.in_err-skip_to_limit-in-Err.ensures.lost (omega arith))

pub returns-clause-judged : goal.returns-clause-judged
returns-clause-judged g c =
    let items = c.in_ok-frame.frame.items in
    let l = c.len.ensures in
    let all = c.if-len-lt-FRAME.false in
    let most = c.in_ok-frame.ensures.size in
    let len : length items ≡ 24 = omega arith in
    let faulty = λ (rest : List ℕ). subst (λ (xs : List ℕ). frame_fault_of (xs ++ rest) ≡ Some c.in-Err.fault) c.as_slice.ensures.value (c.in-Err.ensures.fault rest) in
    whole_faulty _ _ _ items c.in-Err.fault len c.in_ok-frame.ensures.front faulty c.in_ok-skip_to_limit-in-Err.field-0 c.in_ok-skip_to_limit-in-Err.ensures.count c.in_ok-skip_to_limit-in-Err.ensures.front
