use Rattle.std.proofs.Common.{◌≡◌, ◌≢◌, ◌+◌, ◌-◌, ◌*◌, ◌≤◌, ◌++◌, length, refl, sym, ap, subst, ◌∙◌, arith}
use Rattle.std.specs.Prelude.{Err}
use Rattle.shm_words.specs.Layout.{address, bodies}
use Rattle.shm_words.proofs.Placing.{total_most_wide}
use Rattle.shm_audit.specs.{Faults.image_len, Images.{numbers, numbers_in}}
use Rattle.shm_audit.specs.declared.fault.ImageFault.TheVariants as fault
use Rattle.shm_io.specs.Reading.{TakesFront}
use Rattle.shm_io.proofs.ReadSteps.{LosesFront-then, TakesFront-short, TakesFront-then}
use Rattle.shm_stream.specs.Audits.{JudgesRest}
use Rattle.shm_stream.proofs.Pieces.{loses_less, on_err, rest_judged, rest_length, rest_short, rest_taken, takes_loses, two_pieces}
use Rattle.shm_stream.proofs.auditing.audit_rest.Goals as goal

pub returns-in_err-front-clause-lost : goal.returns-in_err-front-clause-lost
unfolding address
returns-in_err-front-clause-lost g c =
    let most = total_most_wide c.args.geometry c.requires in
    let e = c.body.ensures in
    on_err c.from_residual.result (loses_less _ _ (8 * c.body.result) 132185353 (omega arith) c.in_err-front.ensures.lost)

pub wrong_length-requires-clause-room : goal.wrong_length-requires-clause-room
unfolding address
wrong_length-requires-clause-room g c =
    let most = total_most_wide c.args.geometry c.requires in
    let e = c.body.ensures in
    let t = c.if-len-start.true in
    let l = c.len.ensures in
    let m = c.len-then-len-start.ensures in
    omega arith

pub returns-then-len-start-clause-judged : goal.returns-then-len-start-clause-judged
unfolding address
returns-then-len-start-clause-judged g c =
    let x = c.args.geometry in
    let most = total_most_wide x c.requires in
    let start : c.body.result ≡ bodies x = (let e = c.body.ensures in omega arith) in
    let t = c.if-len-start.true in
    let l = c.len.ensures in
    let m = c.len-then-len-start.ensures in
    let n = c.len-then-len-start.result in
    let items = c.in_ok-front.front.items in
    let e : length items ≡ n = omega arith in
    let d : 24 + n ≢ image_len x = λ z. omega arith in (
      items,
      omega arith,
      TakesFront-short _ _ (8 * c.body.result) 132185353 items c.in_ok-front.ensures.front (omega arith) (omega arith),
      subst (λ f. JudgesRest x items (Err f)) (sym c.wrong_length.ensures) (rest_length x items n e d),
    )

pub new-requires-clause-whole : goal.new-requires-clause-whole
unfolding address
new-requires-clause-whole g c =
    let e = c.body.ensures in
    let s = c.in_ok-front.ensures.size in
    let t = c.if-len-start.false in
    let l = c.len.ensures in
    let v = ap length c.deref.ensures.value in
    let f = c.as_chunks.ensures.front_len in
    omega arith

pub returns-in_err-auditor-clause-lost : goal.returns-in_err-auditor-clause-lost
unfolding address
returns-in_err-auditor-clause-lost g c =
    let most = total_most_wide c.args.geometry c.requires in
    let e = c.body.ensures in
    on_err c.from_residual-in_err-auditor.result (takes_loses _ _ (8 * c.body.result) 132185353 c.in_ok-front.front.items (omega arith) c.in_ok-front.ensures.front)

pub read_segments-requires-clause-front : goal.read_segments-requires-clause-front
unfolding address
read_segments-requires-clause-front g c =
    let e = c.body.ensures in
    let s = c.in_ok-front.ensures.size in
    let t = c.if-len-start.false in
    let l = c.len.ensures in
    let v = ap length c.deref.ensures.value in
    let f = c.as_chunks.ensures.front_len in
    omega arith

pub returns-in_err-read-clause-lost : goal.returns-in_err-read-clause-lost
unfolding address
returns-in_err-read-clause-lost g c =
    let most = total_most_wide c.args.geometry c.requires in
    let e = c.body.ensures in
    on_err c.from_residual-in_err-read.result (LosesFront-then _ _ _ (8 * c.body.result) (16384 * c.args.geometry.segments) 132185353 c.in_ok-front.front.items c.in_ok-front.ensures.front c.in_err-read.ensures.lost (omega arith))

pub wrong_length-requires-then-read-from-clause-room : goal.wrong_length-requires-then-read-from-clause-room
unfolding address
wrong_length-requires-then-read-from-clause-room g c =
    let most = total_most_wide c.args.geometry c.requires in
    let e = c.body.ensures in
    let n = c.in_ok-read.ensures.count in
    omega arith

pub returns-then-read-from-clause-judged : goal.returns-then-read-from-clause-judged
unfolding address
returns-then-read-from-clause-judged g c =
    let x = c.args.geometry in
    let start : c.body.result ≡ bodies x = (let e = c.body.ensures in omega arith) in
    let items = c.in_ok-front.front.items in
    let s = c.in_ok-front.ensures.size in
    let t = c.if-len-start.false in
    let l = c.len.ensures in
    let lf : length items ≡ 8 * bodies x = omega arith in
    let first = subst (λ n. TakesFront (g.S.Source.left c.args.source.now) (g.S.Source.left c.read_to_limit.new.source) (8 * n) items) start c.in_ok-front.ensures.front in
    let r = c.in_ok-read.ensures.read in
    let n = c.segments.ensures in
    let f = c.from.ensures in
    let few = c.if-read-from.true in
    let q = rest_short _ _ _ x items r.0 c.in_ok-read.read c.requires lf r.1 (omega arith) first r.2 in
    let same : fault.Length (24 + (8 * bodies x + c.in_ok-read.read)) (image_len x) ≡ c.wrong_length-then-read-from.result = ap (λ n. fault.Length (24 + (8 * n + c.in_ok-read.read)) (image_len x)) (sym start) ∙ sym c.wrong_length-then-read-from.ensures in
    (q.0, q.1, q.2, subst (λ e. JudgesRest x q.0 (Err e)) same q.3)

pub returns-in_err-more-clause-lost : goal.returns-in_err-more-clause-lost
unfolding address
returns-in_err-more-clause-lost g c =
    let x = c.args.geometry in
    let most = total_most_wide x c.requires in
    let e = c.body.ensures in
    let t = c.total.ensures in
    let r = c.in_ok-read.ensures.read in
    on_err c.from_residual-in_err-more.result (LosesFront-then _ _ _ (8 * c.body.result + 16384 * x.segments) (132185353 - 8 * c.total.result) 132185353 (c.in_ok-front.front.items ++ r.0)
    (TakesFront-then _ _ _ (8 * c.body.result) (16384 * x.segments) c.in_ok-front.front.items r.0 c.in_ok-front.ensures.front r.2) c.in_err-more.ensures.lost (omega arith))

pub wrong_length-requires-then-more-gt0-clause-room : goal.wrong_length-requires-then-more-gt0-clause-room
unfolding address
wrong_length-requires-then-more-gt0-clause-room g c =
    let most = total_most_wide c.args.geometry c.requires in
    let e = c.body.ensures in
    let n = c.in_ok-read.ensures.count in
    let m = c.in_ok-more.ensures.count in
    omega arith

pub returns-then-more-gt0-clause-judged : goal.returns-then-more-gt0-clause-judged
unfolding address
returns-then-more-gt0-clause-judged g c =
    let x = c.args.geometry in
    let most = total_most_wide x c.requires in
    let start : c.body.result ≡ bodies x = (let e = c.body.ensures in omega arith) in
    let items = c.in_ok-front.front.items in
    let s = c.in_ok-front.ensures.size in
    let t = c.if-len-start.false in
    let l = c.len.ensures in
    let lf : length items ≡ 8 * bodies x = omega arith in
    let first = subst (λ n. TakesFront (g.S.Source.left c.args.source.now) (g.S.Source.left c.read_to_limit.new.source) (8 * n) items) start c.in_ok-front.ensures.front in
    let r = c.in_ok-read.ensures.read in
    let count = c.in_ok-read.ensures.count in
    let n = c.segments.ensures in
    let f = c.from.ensures in
    let all = c.if-read-from.false in
    let whole : c.in_ok-read.read ≡ 16384 * x.segments = omega arith in
    let m = c.in_ok-more.ensures.front in
    let last = subst (λ n. TakesFront (g.S.Source.left c.read_segments.new.source) (g.S.Source.left c.skip_to_limit.new.source) (132185353 - 8 * n) m.0) c.total.ensures m.2 in
    let le = subst (λ n. c.in_ok-more.more ≤ 132185353 - 8 * n) c.total.ensures c.in_ok-more.ensures.count in
    let q = rest_taken _ _ _ _ x items r.0 m.0 c.in_ok-more.more c.requires lf (r.1 ∙ whole) m.1 le first r.2 last in
    let some = c.if-more-gt0.true in
    let len : length (items ++ r.0 ++ m.0) ≡ 8 * c.body.result + c.in_ok-read.read + c.in_ok-more.more = (let k = q.0 in omega arith) in
    (items ++ r.0 ++ m.0, q.1, q.2, subst (λ e. JudgesRest x (items ++ r.0 ++ m.0) (Err e)) (sym c.wrong_length-then-more-gt0.ensures) (rest_length x (items ++ r.0 ++ m.0) (8 * c.body.result + c.in_ok-read.read + c.in_ok-more.more) len (λ z. omega arith)))

pub finish-requires-clause-front : goal.finish-requires-clause-front
unfolding address
finish-requires-clause-front g c =
    let e = c.body.ensures in
    let s = c.in_ok-front.ensures.size in
    let t = c.if-len-start.false in
    let l = c.len.ensures in
    let v = ap length c.deref.ensures.value in
    let f = c.as_chunks.ensures.front_len in
    omega arith

pub finish-requires-clause-seen : goal.finish-requires-clause-seen
unfolding address
finish-requires-clause-seen g c =
    let x = c.args.geometry in
    let start : c.body.result ≡ bodies x = (let e = c.body.ensures in omega arith) in
    let items = c.in_ok-front.front.items in
    let s = c.in_ok-front.ensures.size in
    let t = c.if-len-start.false in
    let l = c.len.ensures in
    let lf : length items ≡ 8 * bodies x = omega arith in
    let r = c.in_ok-read.ensures.read in
    let count = c.in_ok-read.ensures.count in
    let n = c.segments.ensures in
    let f = c.from.ensures in
    let all = c.if-read-from.false in
    let whole : c.in_ok-read.read ≡ 16384 * x.segments = omega arith in
    let m = c.in_ok-more.ensures.front in
    let part : numbers c.as_chunks.result.0.now ≡ numbers_in items = ap numbers c.as_chunks.ensures.front ∙ ap numbers_in c.deref.ensures.value in
    let p = two_pieces x items r.0 m.0 (numbers c.as_chunks.result.0.now) lf (r.1 ∙ whole) part in
    let ws = numbers_in (items ++ r.0 ++ m.0) in
    (ws, r.3 whole ws p.0 p.1 (c.in_ok-auditor.ensures ws p.0))

pub returns-clause-judged : goal.returns-clause-judged
unfolding address
returns-clause-judged g c =
    let x = c.args.geometry in
    let start : c.body.result ≡ bodies x = (let e = c.body.ensures in omega arith) in
    let items = c.in_ok-front.front.items in
    let s = c.in_ok-front.ensures.size in
    let t = c.if-len-start.false in
    let l = c.len.ensures in
    let lf : length items ≡ 8 * bodies x = omega arith in
    let first = subst (λ n. TakesFront (g.S.Source.left c.args.source.now) (g.S.Source.left c.read_to_limit.new.source) (8 * n) items) start c.in_ok-front.ensures.front in
    let r = c.in_ok-read.ensures.read in
    let count = c.in_ok-read.ensures.count in
    let n = c.segments.ensures in
    let f = c.from.ensures in
    let all = c.if-read-from.false in
    let whole : c.in_ok-read.read ≡ 16384 * x.segments = omega arith in
    let m = c.in_ok-more.ensures.front in
    let last = subst (λ n. TakesFront (g.S.Source.left c.read_segments.new.source) (g.S.Source.left c.skip_to_limit.new.source) (132185353 - 8 * n) m.0) c.total.ensures m.2 in
    let le = subst (λ n. c.in_ok-more.more ≤ 132185353 - 8 * n) c.total.ensures c.in_ok-more.ensures.count in
    let q = rest_taken _ _ _ _ x items r.0 m.0 c.in_ok-more.more c.requires lf (r.1 ∙ whole) m.1 le first r.2 last in
    let none = c.if-more-gt0.false in
    let part : numbers c.as_chunks.result.0.now ≡ numbers_in items = ap numbers c.as_chunks.ensures.front ∙ ap numbers_in c.deref.ensures.value in
    let p = two_pieces x items r.0 m.0 (numbers c.as_chunks.result.0.now) lf (r.1 ∙ whole) part in
    let ws = numbers_in (items ++ r.0 ++ m.0) in
    let long : 24 + length (items ++ r.0 ++ m.0) ≡ image_len x = (let k = q.0 in omega arith) in
    (items ++ r.0 ++ m.0, q.1, q.2, rest_judged x (items ++ r.0 ++ m.0) ws (numbers c.as_chunks.result.0.now) c.read_segments.new.auditor c.finish.result refl long p.0 (r.3 whole ws p.0 p.1 (c.in_ok-auditor.ensures ws p.0)) c.finish.ensures.ok c.finish.ensures.err)
