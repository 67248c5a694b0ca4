-- loads of words of pages' bodies, and exchanges of headers that fail, as machines use them
use Rattle.std.proofs.Common.{◌≡◌, ◌≢◌, ℕ, ◌+◌, refl, sym, ap, ◌∙◌, subst, Bool, true, false, cond, eqb, arith, inl, inr}
use Rattle.std.proofs.lemmas.Bool.{ne_eqb, and_from, lt-ltb}
use Rattle.shm_graph.specs.declared.{ask.{Ask.TheVariants.{Load, Exchange}, Me.Me}, spot.Spot.Spot}
use Rattle.shm_graph.specs.declared.{spot.Spot.TheVariants.{Head, Tag, Body}, memo.{Memo.Memo, Step.Step}}
use Rattle.shm_graph.specs.{Spots.{spot_at, upd}, Blocks.{classes, IsBlock}, Views.{view, at1}, Held.HeldAt}
use Rattle.shm_graph.specs.{Ops.{cover_of, held_over_of}, Asks.Trail}
use Rattle.shm_graph.specs.Changes.{called, test_before, with_call, with_end, memo_on}
use Rattle.shm_graph.specs.{MemoAfterRead.{read_on, header_read}, MemoAfterExchange.exchanged_on}
use Rattle.shm_graph.specs.{Telling.{claims, claim_of, covers, spot_told}, Events.{Nothing, graph_of, Happens}}
use Rattle.shm_graph.specs.Laws.{Frame, framed, Stands, KeptAt, event_of}
use Rattle.shm_graph.proofs.{Spots.Spotting.{head_at, tag_block, body_block}, Memos.MemoParts.end_view}
use Rattle.shm_graph.proofs.Memos.{BodyTold.told_exchange, LoadTold.{claim_found, told_load}}
use Rattle.shm_graph.proofs.{Machines.Calling.called_part, StepKinds.{OpEnd.uncommitted_quiet, SameGraph.same_graph}}
use Rattle.kind_parts.specs.LoadNeeds.{IsTold, IsCovered, MayLook}
use Rattle.kind_parts.proofs.{HeaderReads.{header_held, header_op}, BlockReads.{tag_held, word_held, word_op}}

-- a load that is told, with a memo that holds and the same step in progress
read_kept : (me : Me) (w : Spot → ℕ) (r : ℕ → Memo) (f : Frame) (at : ℕ) (p : Spot)
    → let t : Step = framed me (Load at) f (w p) in
    let m : Memo = read_on me.geometry me.who true (called (r me.who) t) (test_before (r me.who) t) p (w p) in
    spot_told me.geometry me.who (r me.who) (Load at) ≡ p
    → HeldAt me.geometry w (view (at1 r me.who m))
    → cover_of m.op ≡ cover_of (r me.who).op → held_over_of m.op ≡ held_over_of (r me.who).op
    → KeptAt me w r (Load at) f (λ n m. Unit {0}) p
read_kept me w r f at p told held covers held_over =
    let g = me.geometry in
    let c = me.who in
    let t : Step = framed me (Load at) f (w p) in
    let m : Memo = read_on g c true (called (r c) t) (test_before (r c) t) p (w p) in
    record {
      told = told;
      step = record {
        held = subst (HeldAt g w) (sym (end_view r c (called (r c) t) m f.ends)) held;
        event = same_graph g w w r c (memo_on (r c) t p) covers held_over (λ b. refl) (λ b. refl) refl;
        allowed = tt;
        row = tt;
        era = tt;
      };
      fits = tt;
    }

-- a header is loaded
pub header_loaded : (me : Me) (w : Spot → ℕ) (r : ℕ → Memo) (f : Frame) (tr : Trail) (at b : ℕ) → Stands me w r f tr → spot_at me.geometry (classes w) at ≡ Head b
    → KeptAt me w r (Load at) f (λ n m. Unit {0}) (spot_at me.geometry (classes w) at)
header_loaded me w r f tr at b s e =
    let g = me.geometry in
    let c = me.who in
    let t : Step = framed me (Load at) f (w (Head b)) in
    let is : IsBlock g (classes w) b = ap (spot_at g (classes w)) (sym (head_at g (classes w) at b e)) ∙ e in
    subst (KeptAt me w r (Load at) f (λ n m. Unit {0})) (sym e)
    (read_kept me w r f at (Head b) (told_load g w r s.held c s.who at (Head b) e refl (inl (b, refl)))
    (header_held g w r c b true t s.held s.who is)
    (header_op (λ o. cover_of o ≡ cover_of (r c).op) g w c b true (r c) t refl (λ u. sym (uncommitted_quiet (r c).op u).0))
    (header_op (λ o. held_over_of o ≡ held_over_of (r c).op) g w c b true (r c) t refl (λ u. sym (uncommitted_quiet (r c).op u).1)))

-- the tag of a block of which something is told is loaded
pub tag_loaded : (me : Me) (w : Spot → ℕ) (r : ℕ → Memo) (f : Frame) (tr : Trail) (at b : ℕ) → Stands me w r f tr → spot_at me.geometry (classes w) at ≡ Tag b → IsTold me.geometry.wide me.who (r me.who) b
    → KeptAt me w r (Load at) f (λ n m. Unit {0}) (spot_at me.geometry (classes w) at)
tag_loaded me w r f tr at b s e (k, has, of) =
    let g = me.geometry in
    let c = me.who in
    let t : Step = framed me (Load at) f (w (Tag b)) in
    let there = (tag_block g (classes w) at b e).1 in
    let over : covers at k ≡ true = and_from _ _ (lt-ltb k.block at (omega arith)) (lt-ltb at (k.block + 2 + k.refs + k.plain) (omega arith)) in
    let q = claim_found at (claims me.geometry.wide c (r c)) k has over in
    subst (KeptAt me w r (Load at) f (λ n m. Unit {0})) (sym e)
    (read_kept me w r f at (Tag b) (told_load g w r s.held c s.who at (Tag b) e refl (inr (k, has, over)))
    (tag_held g w r c at b q.0 t s.held s.who e q.1)
    (called_part (λ (x : Memo). cover_of x.op) (r c) t refl refl)
    (called_part (λ (x : Memo). held_over_of x.op) (r c) t refl refl))

-- a word of a block that is told is loaded
pub word_loaded : (me : Me) (w : Spot → ℕ) (r : ℕ → Memo) (f : Frame) (tr : Trail) (at b i : ℕ) → Stands me w r f tr → spot_at me.geometry (classes w) at ≡ Body b i → IsCovered me.geometry.wide me.who (r me.who) at → MayLook me.geometry.wide me.who (r me.who) b i
    → KeptAt me w r (Load at) f (λ n m. Unit {0}) (spot_at me.geometry (classes w) at)
word_loaded me w r f tr at b i s e over may =
    let g = me.geometry in
    let c = me.who in
    let t : Step = framed me (Load at) f (w (Body b i)) in
    let there : b + 2 + i ≡ at = (body_block g (classes w) at b i e).2 in
    subst (KeptAt me w r (Load at) f (λ n m. Unit {0})) (sym e)
    (read_kept me w r f at (Body b i) (told_load g w r s.held c s.who at (Body b i) e refl (inr over))
    (word_held g w r c b i t s.held s.who (ap (spot_at g (classes w)) there ∙ e) may)
    (word_op cover_of (r c) t (claim_of me.geometry.wide c (called (r c) t) (b + 2 + i)) b i (w (Body b i)))
    (word_op held_over_of (r c) t (claim_of me.geometry.wide c (called (r c) t) (b + 2 + i)) b i (w (Body b i))))

-- an exchange of a header found another word
pub header_lost : (me : Me) (w : Spot → ℕ) (r : ℕ → Memo) (f : Frame) (tr : Trail) (at from to b : ℕ) → Stands me w r f tr → spot_at me.geometry (classes w) at ≡ Head b → w (Head b) ≢ from
    → KeptAt me w r (Exchange at from to) f (λ n m. Unit {0}) (spot_at me.geometry (classes w) at)
header_lost me w r f tr at from to b s e other =
    let g = me.geometry in
    let c = me.who in
    let t : Step = framed me (Exchange at from to) f (w (Head b)) in
    let is : IsBlock g (classes w) b = ap (spot_at g (classes w)) (sym (head_at g (classes w) at b e)) ∙ e in
    let lost : false ≡ eqb (w (Head b)) from = sym (ne_eqb (w (Head b)) from other) in
    let words : Bool → Spot → ℕ = λ y. cond y (upd w (Head b) to) w in
    let memo : Bool → Memo = λ y. with_end f.ends (with_call (called (r c) t) (cond y (exchanged_on me.geometry.wide c (called (r c) t) (Head b) to) (read_on g c false (called (r c) t) (test_before (r c) t) (Head b) (w (Head b))))) in
    subst (KeptAt me w r (Exchange at from to) f (λ n m. Unit {0})) (sym e)
    (record {
      told = told_exchange g (classes w) c (r c) at from to b e;
      step = record {
        held = subst (λ y. HeldAt g (words y) (view (at1 r c (memo y)))) lost
            (subst (HeldAt g w) (sym (end_view r c (called (r c) t) (header_read g c false (called (r c) t) b (w (Head b))) f.ends)) (header_held g w r c b false t s.held s.who is));
        event = subst (λ y. Happens g w (cond y (event_of c (r c).op) Nothing) (graph_of g w (view r)) (graph_of g (words y) (view (at1 r c (memo y))))) lost
            (same_graph g w w r c (memo false)
            (header_op (λ o. cover_of o ≡ cover_of (r c).op) g w c b false (r c) t refl (λ u. sym (uncommitted_quiet (r c).op u).0))
            (header_op (λ o. held_over_of o ≡ held_over_of (r c).op) g w c b false (r c) t refl (λ u. sym (uncommitted_quiet (r c).op u).1))
            (λ d. refl) (λ d. refl) refl);
        allowed = λ q. absurd (other q);
        row = λ q. absurd (other q);
        era = tt;
      };
      fits = tt;
    })
