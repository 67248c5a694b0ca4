use Rattle.std.proofs.{Common.{◌≡◌, get_or, sym, ap, ◌∙◌}, lemmas.Result.err_from_is_err_and}
use Rattle.std.specs.Prelude.{IfErr, IfOk, Result, Ok, Err, Some}
use Rattle.shm_words.specs.declared.geometry.Geometry.{Geometry}
use Rattle.shm_audit.specs.Images.{numbers, numbers_in}
use Rattle.shm_audit.proofs.Windows.{announced, bad_mark, bad_sizes}
use Rattle.shm_audit.proofs.image.read_frame.Goals as goal

both_ok : {T E : Type 0} (r : Result T E) (P Q R : T → Type 0) → IfOk r P → IfOk r Q → ((x : T) → P x → Q x → R x) → IfOk r R
both_ok (Ok x) P Q R p q h = h x p q
both_ok (Err e) P Q R p q h = p

weaker_err : {T E : Type 0} (r : Result T E) (P R : E → Type 0) → IfErr r P → ((x : E) → P x → R x) → IfErr r R
weaker_err (Ok x) P R p h = p
weaker_err (Err e) P R p h = h e p

pub returns-in_err-wide-clause-fault : goal.returns-in_err-wide-clause-fault
returns-in_err-wide-clause-fault c = let p = err_from_is_err_and c.from_residual.result c.from_residual.ensures.1 in
    let frame = c.args.frame.now in
    let w = ap numbers c.as_chunks.ensures.front in
    let first : get_or (numbers_in frame) 0 0 ≡ c.word.result = sym (c.word.ensures ∙ ap (λ xs. get_or xs 0 0) w) in
    rw (p.1, p.2) (λ rest. bad_mark frame rest c.requires c.word.result first c.in_err-wide.ensures.fault.0 ∙ ap Some (sym c.in_err-wide.ensures.fault.1))

pub returns-clause-sizes : goal.returns-clause-sizes
returns-clause-sizes c =
    let frame = c.args.frame.now in
    let w = ap numbers c.as_chunks.ensures.front in
    let first : get_or (numbers_in frame) 0 0 ≡ c.word.result = sym (c.word.ensures ∙ ap (λ xs. get_or xs 0 0) w) in
    let clients : get_or (numbers_in frame) 1 0 ≡ c.word-2.result = sym (c.word-2.ensures ∙ ap (λ xs. get_or xs 1 0) w) in
    let segments : get_or (numbers_in frame) 2 0 ≡ c.word-3.result = sym (c.word-3.ensures ∙ ap (λ xs. get_or xs 2 0) w) in
    let format = c.in_ok-wide.ensures.format in
    both_ok c.read_sizes.result _ _ _ c.read_sizes.ensures.sizes c.read_sizes.ensures.fits (λ g s f. λ rest. announced frame rest c.requires c.word.result g first format.0 (clients ∙ sym s.0) (segments ∙ sym s.1) (sym format.1 ∙ sym s.2) f)

pub returns-clause-fault : goal.returns-clause-fault
returns-clause-fault c =
    let frame = c.args.frame.now in
    let w = ap numbers c.as_chunks.ensures.front in
    let first : get_or (numbers_in frame) 0 0 ≡ c.word.result = sym (c.word.ensures ∙ ap (λ xs. get_or xs 0 0) w) in
    let clients : get_or (numbers_in frame) 1 0 ≡ c.word-2.result = sym (c.word-2.ensures ∙ ap (λ xs. get_or xs 1 0) w) in
    let segments : get_or (numbers_in frame) 2 0 ≡ c.word-3.result = sym (c.word-3.ensures ∙ ap (λ xs. get_or xs 2 0) w) in
    let format = c.in_ok-wide.ensures.format in
    let g : Geometry = record { clients = c.word-2.result; segments = c.word-3.result; wide = c.in_ok-wide.wide } in
    weaker_err c.read_sizes.result _ _ c.read_sizes.ensures.fault (λ f h. λ rest. bad_sizes frame rest c.requires c.word.result g first format.0 clients segments (sym format.1) h.0 ∙ ap Some (sym h.1))
