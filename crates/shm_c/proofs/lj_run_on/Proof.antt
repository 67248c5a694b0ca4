-- `lj_run_on`: the session is lent for a lifetime that is made for the call of `run`, and comes back once it is over; the words are lent to it for theirs.
use Rattle.std.proofs.Common.{◌≡◌, ℕ, ◌*◌, ◌^◌, ◌<◌, List, [], ◌∷◌, ◌++◌, length, replicate, refl, sym, subst, ap, arith, Bor, w32, w64}
use Rattle.std.proofs.{raw_atomic.Walks.proved, sync.atomic.AtomicU64.TheLaws.the_row_laws as LW}
use Rattle.std.specs.contracts.sync.atomic.AtomicU64.{the_row as word}
use lib.ListN.{length-replicate}
use mir.Syntax.{named}
use mir.Val.{vint, vptr}
use base.Fraction.{full_share}
use base.Logic.{id⊢}
use base.Fml.{GName, Lft, Share, ftrue, flft, flent}
use prog.Wp.{WpFn}
use contract.Monad.{fact}
use contract.Running.{tables}
use types.Kit.{‵, raw, prop, ◌⊛◌, some, later, ◌$◌, ◌∵◌, !, qed, done, move, keep, drop, use1, use3, split, join, fsplit, fjoin, fpack, pick, await, regoal, suffices, group}
use types.Part.{agg}
use types.Run.{enter, of_opd, un, addr, stop, no_more, and_then, returns}
use types.ByLocal.{alloc_all, pass_all, free_all, look_at, get, through, sets, lands_as}
use types.SemTy.{Body}
use types.Tokens.{lft_new, lft_end}
use denote.Builtin.{u32, u64, RawPtr}
use denote.Exit.{yes}
use denote.Laws.{Is, shows}
use denote.Lend.{lends_ref, ref_back}
use denote.Memory.{mem, part_at}
use denote.Opens.{hide, unhide, laws_dup}
use denote.Plain.{uint_vals, uint_Tells, uint_Makes}
use denote.RawPtr.{Ptr, block_ptr, lies_at, in_a_block, rawptr_vals, rawptr_Tells}
use denote.Ref.{MutBor, MutRef, mut_vals}
use denote.Shadow.{pure_i}
use denote.Signature.{plain}
use denote.Slice.{Room, elements_shared, elements_shr_laws, shr_slice_at, slice_val}
use denote.Steps.{nothing, owned, heard, peeks}
use denote.Triple.Call.{calls_at}
use denote.Triple.Clauses.{Lasts, lasts}
use denote.Triple.Entry.{on_entry}
use denote.Triple.Spec.{triple_of}
use denote.Triple.Table.{framed}
use denote.Triple.Walked.{Stays, walk_of, stay_dropped, Goes-dropped, ends_at}
use Rattle.shm_sitting.specs.{declared.seat.Seat.Seat, contracts.seat.Seat.the_row as R, Seats.IsRun}
use Rattle.shm_session.specs.{declared.said.Ran.Ran, contracts.said.Ran.the_row as S}
use Rattle.shm_session.proofs.said.Ran.TheLaws.{the_row_laws as LS}
use Rattle.shm_c.specs.Holds.{SeatRan, lent_words, seat_at, words_at}
use Rattle.shm_c.specs.contracts.lj_run_on as f
use Rattle.shm_c.specs.contracts.run as g
use Rattle.shm_c.proofs.{lj_run_on.Statement.statement, run.Met.met}
use Rattle.shm_c.proofs.lj_run_on.Code as code

abbrev stayed : Stays f.ended.signature.params f.ended.kept
stayed = (stay_dropped _ yes, (stay_dropped _ yes, (stay_dropped _ yes, (stay_dropped _ yes, tt))))

pub lj_run_on_spec : {M : Type 1} → statement M
lj_run_on_spec 𝓤 𝓛 𝓜 𝓡 wired =
    let c = f.clauses 𝓛 𝓜.mem 𝓡.returns in let W = walk_of 𝓛 f.ended stayed c in let 𝓣 = tables 𝓤 𝓛.H 𝓜 𝓡 𝓡.env in
    proved 𝓛 f.ended stayed c 𝓜 𝓡 (Goes-dropped 𝓛 0 (plain (λ _. RawPtr)) yes (λ κs x w. refl), (Goes-dropped 𝓛 0 (plain (λ _. RawPtr)) yes (λ κs x w. refl), (Goes-dropped 𝓛 0 (plain (λ _. u32)) yes (λ κs x w. refl), (Goes-dropped 𝓛 0 (plain (λ _. u64)) yes (λ κs x w. refl), tt))))
    f.Key.name code.function (code.unfolded 𝓤 𝓛.H 𝓜 𝓡 wired)
    (λ κs. (rawptr_vals, (rawptr_vals, (uint_vals w32, (uint_vals w64, tt))))) (λ κs. (rawptr_Tells, (rawptr_Tells, (uint_Tells w32, (uint_Tells w64, tt))))) (λ κs qs bounds a x are.
    let n : ℕ = a.1.1.0 in let s : ℕ = a.1.1.1.0 in let ω : Lft = x.1 in let q : Share = x.2 in
    let xs : List (Unit {0}) = replicate n tt in let same : length xs ≡ n = length-replicate n tt in
    let small : n < 2 ^ 32 = are.1.1.0.1 in let fits : n < 2 ^ 64 = omega arith in let room : n * 8 < 2 ^ 63 = omega arith in
    let y : Ptr → Ptr → W.Ghost = λ p w. ((κs, qs, bounds, (p, (w, (n, (s, tt)))), (rawptr_vals p, (rawptr_vals w, (uint_vals w32 n, (uint_vals w64 s, tt))))), x) in
    let Runs = λ (p w : Ptr). WpFn 𝓤 𝓛.H 𝓣.C 𝓣.Λ code.function (rawptr_vals p ++ (rawptr_vals w ++ (vint w32 n ∷ (vint w64 s ∷ [])))) (W.post (y p w)) in
    qed 𝓛 (raw (on_entry 𝓛 f.signature κs qs a (y a.0 a.1.0).0.4) ∷ ‵ (lies_at R full_share a.0 x.0) ∷ ‵ (lent_words a.1.0 n ω q) ∷ []) ∵ drop ! $
    in_a_block ! a.0 (λ p. lies_at R full_share p x.0) (id⊢ 𝓤 _) (λ b o e. regoal ! (λ p. prop (Runs p a.1.0)) e refl $
    move ! (1 ∷ []) $ fsplit ! $ move ! (1 ∷ []) $
    in_a_block ! a.1.0 (λ w. words_at w n ω) (id⊢ 𝓤 _) (λ b' o' e'. regoal ! (λ w. prop (Runs (block_ptr b o) w)) e' refl $
    -- [the words; the token of their lifetime; the session]
    enter ! _ _ _ _ _ $ alloc_all ! (λ l. pass_all ! refl ((tt, tt), ((tt, tt), ((tt, record { fits = small }), ((tt, record { fits = are.1.1.1.0.1 }), tt)))) $
    -- the pointers, the count, the slice, and a reference that leads to the session
    sets ! (of_opd ! (get ! refl)) refl (tt, tt) $
    sets ! (of_opd ! (get ! refl)) refl (tt, tt) $
    sets ! (un ! (get ! refl) (record { fits = fits })) refl (tt, record { fits = fits }) $
    sets ! (agg ! (and_then ! (get ! refl) (and_then ! (get ! refl) (no_more !)))) refl (tt, (tt, (record { fits = fits }, tt))) $
    sets ! (addr ! (through ! refl (stop !))) refl (tt, tt) $
    hide ! $ laws_dup ! (elements_shared word xs b' o') (elements_shr_laws word LW.shr_laws xs b' o') ω $
    pure_i ! (shr_slice_at word (record { ref_ptr = (b', o'); now = xs }) (slice_val (b', o') n ∷ [])) (tt, (tt, tt)) (ap (λ (m : ℕ). slice_val (b', o') m ∷ []) (sym same), subst (Room word) (sym same) (fits, room)) $ fjoin ! $
    -- [a reference to the words; the words; the token; the session]
    lft_new ! tt (λ α. let κ = α ∷ [] in move ! (4 ∷ 0 ∷ []) $
    use1 𝓛 (later (some (λ (γ : GName). ‵ ((MutRef (named 0) κ R).own_val (record { ref_ptr = (b, o); ghost_name = γ; now = x.0 }) (vptr b o ∷ [])) ⊛ ‵ (flent κ (Body (mem R) b o γ))))) (lends_ref 𝓛 R (named 0) κ x.0 b o) $ await ! tt $ pick ! (λ γ. split ! $
    -- [the reference; what the lender keeps; the new token; the reference to the words; the words; the token]
    let r : MutBor Seat = record { ref_ptr = (b, o); ghost_name = γ; now = x.0 } in
    let ws : Bor (List (Unit {0})) = record { ref_ptr = (b', o'); now = xs } in
    let G = triple_of 𝓛 g.signature (g.spec 𝓛 𝓜.mem 𝓡.returns) in
    let z : G.Ghost = (((κ, (ω, tt)), (full_share, (q, tt)), tt, (r, (ws, (s, tt))), (mut_vals r, (slice_val (b', o') n ∷ [], (vint w64 s ∷ [], tt)))), tt) in
    nothing ! $ owned ! u64 (Is u64) (uint_Makes 𝓛 w64) s _ (refl, are.1.1.1.0.1) $ fjoin ! $ move ! (4 ∷ 0 ∷ []) $ fjoin ! $ move ! (1 ∷ 0 ∷ []) $ fjoin ! $
    -- [what `run` is given; what the lender keeps; the new token; the words; the token]
    nothing ! $ move ! (5 ∷ 0 ∷ []) $ join ! $ move ! (3 ∷ 0 ∷ []) $ join ! $ join ! $ nothing ! $ move ! (1 ∷ 0 ∷ []) $ join ! $ use1 𝓛 (raw (G.pre z)) (id⊢ 𝓤 _) $
    calls_at ! (framed 𝓤 𝓛.H 𝓜 (tables 𝓤 𝓛.H 𝓜 𝓡 𝓡.env)) G (met 𝓤 𝓛 𝓜 𝓡 (code.calls-shm_c::run 𝓡.env wired)) z
    (and_then ! (get ! refl) (and_then ! (get ! refl) (and_then ! (get ! refl) (no_more !)))) (λ v.
    use1 𝓛 (later (some (λ (u : Ran). ((‵ (flft κ full_share) ⊛ (‵ (flft ω q) ⊛ ‵ ftrue)) ⊛ ‵ (S.own_val u (v ∷ []))) ⊛
    some (λ (ls : Lasts g.ended z.0.0 z.0.3). ‵ (lasts g.ended z.0.0 z.0.3 ls) ⊛ raw (fact 𝓤 (IsRun x.0 (length xs) s u ls.0)))))) (id⊢ 𝓤 _) $
    await ! tt $ pick ! (λ u. split ! $ split ! $ split ! $ lft_end ! tt $ move ! (3 ∷ []) $ pick ! (λ ls. split ! $ move ! (1 ∷ []) $ heard ! _ (λ done'. fsplit ! $ fsplit ! $
    -- [the last value; the borrow; nothing; the lifetime is over; the token; the result; what the lender keeps; the words]
    move ! (3 ∷ 6 ∷ 0 ∷ []) $ use3 𝓛 (later (‵ (part_at R full_share ls.0 b o))) (ref_back 𝓛 R κ γ ls.0 b o) $ await ! tt $
    -- [the session; the borrow; nothing; the token; the result; the words]
    move ! (4 ∷ []) $ peeks ! S (Is S) (shows 𝓛 S) u (v ∷ []) (λ is. lands_as ! refl refl ((LS.lawful 𝓛).typed u _ is).0 $
    returns ! (look_at ! 0 refl) $ free_all ! refl $ keep ! (4 ∷ 5 ∷ 1 ∷ 0 ∷ []) $
    suffices ! _ (ends_at 𝓛 f.ended stayed c (y (block_ptr b o) (block_ptr b' o')) v u (tt, (tt, (tt, (tt, tt)))) (tt, (tt, (tt, (tt, tt))))) $
    -- [the token; the words; the session; the result]
    split ! $ move ! (2 ∷ []) $ unhide ! $ move ! (1 ∷ 0 ∷ []) $ fjoin ! $ move ! (2 ∷ []) $
    fpack ! (SeatRan x.0 n s u) (λ t. seat_at (block_ptr b o) t.now) (record { now = ls.0; is = subst (λ (m : ℕ). IsRun x.0 m s u ls.0) same done' }) $ keep ! (3 ∷ 0 ∷ 1 ∷ []) $
    nothing ! $ nothing ! $ join ! $ nothing ! $ join ! $ nothing ! $ join ! $ nothing ! $ join ! $ nothing ! $ group ! 3 $ done !)))))))))))
