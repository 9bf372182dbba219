-- What a host decodes of a stop at a service is the exit of the page's service.
use Prim.Native.Nat.{ℕ, ◌<◌}
use native.Mathlib.Omega.{arith}
use mathlib.Core.Bool.{Bool, true, false, not, cond, true≢false}
use mathlib.Core.List.{List}
use mathlib.Core.Logic.{inl, inr, ⊎_elim}
use mathlib.Core.Path.{◌≡◌, refl, sym, ap, subst, ◌∙◌}
use lib.Dec.{eqb, ltb}
use borrow.Author.Tests.{le-leb}
use Rattle.page.specs.Page.{bundles_in, word_at}
use Rattle.literal.specs.Literals.{literal_of}
use Rattle.service.specs.Services.{takes_literal, literal_service, by_low_byte, service_of}
use Rattle.ending.specs.Endings.{ending_of, ending_on}
use Rattle.service.proofs.Theorems.{by_literal_lem, by_itself}
use Rattle.ending.proofs.Theorems.{set_changes}
use Rattle.literal.specs.declared.Service.{Service}
use Rattle.literal.specs.declared.Service.TheVariants.{Return, Call, TailCall, Syscall, TailSyscall, LongBranch, Preload, SetBase, StoreAtSp, LoadAtSp, LowerSp, DirectSyscall, Validate, Breakpoint, CallRegister, TailCallRegister, Bad}
use Rattle.state.specs.declared.Record.{Record}
use Rattle.stop.specs.Stops.{Exit, direct, by_literal}
use Rattle.instruction.specs.Instructions.{exit_of}
use Rattle.instruction.specs.Fitness.{ServiceAt, is_exit}
use Rattle.series.specs.Demand3.{StopsBy, OwnCall}
use Rattle.platform.specs.Programs.{Program}
use Rattle.instruction.proofs.Words.{InWidth, in_width}
use Rattle.crossing.specs.Exits.{exit_numbers, decoded_exit}
use Rattle.crossing.specs.declared.ExitNumbers.{ExitNumbers}
use Rattle.crossing.specs.declared.StopNumbers.{StopNumbers}
use Rattle.host_series.specs.Host.{Host, stop_in}
use Rattle.host_series.specs.HostSeries.{RecordCall, handed_record, gave_record, host_machine}
use Rattle.host_series.specs.HostExits.{decoded_stop, AtService, Decodes}

-- kind 0 is that of the services that are no exits
pub kinds : (s : Service) → eqb (exit_numbers s).kind 0 ≡ not (is_exit (ending_of s))
kinds Return = refl
kinds (Call a n) = refl
kinds (TailCall a n) = refl
kinds (Syscall n i) = refl
kinds (TailSyscall n i) = refl
kinds (LongBranch a) = refl
kinds Preload = refl
kinds (SetBase a) = refl
kinds (StoreAtSp t a) = refl
kinds (LoadAtSp t a) = refl
kinds (LowerSp a) = refl
kinds (DirectSyscall n) = refl
kinds (Validate n) = refl
kinds Breakpoint = refl
kinds (CallRegister n) = refl
kinds (TailCallRegister n) = refl
kinds Bad = refl

-- a set of syscalls that never return makes no exit and takes none away
same_exits : (set : ℕ) (s : Service) → is_exit (ending_on set s) ≡ is_exit (ending_of s)
same_exits set s = ⊎_elim (ap is_exit) (λ last. ap is_exit last.1 ∙ sym (ap is_exit last.0)) (set_changes set s)

in_page : (page : List ℕ) (n : ℕ) → is_exit (ending_of (literal_service page n)) ≡ true → literal_service page n ≡ literal_of (word_at page n)
unfolding literal_service
in_page page n x = go (ltb n (bundles_in page)) x
  where
    go : (t : Bool) → is_exit (ending_of (cond t (literal_of (word_at page n)) Bad)) ≡ true → cond t (literal_of (word_at page n)) Bad ≡ literal_of (word_at page n)
    go true x = refl
    go false x = absurd (true≢false (sym x))

-- the exit of a low byte with any literal, where the page's has to count
told : (page : List ℕ) (n w : ℕ) → n < 256 → is_exit (ending_of (service_of page n)) ≡ true
    → (takes_literal n ≡ true → w ≡ word_at page n) → decoded_exit n w ≡ exit_numbers (service_of page n)
unfolding service_of
told page n w l x h = rw (le-leb n 0xFF (omega arith)) (go (takes_literal n) refl)
  where
    go : (t : Bool) → takes_literal n ≡ t → exit_numbers (by_low_byte n (literal_of w)) ≡ exit_numbers (by_low_byte n (literal_service page n))
    go true e =
        let meant = by_literal_lem n (literal_service page n) e in
        rw (by_literal_lem n (literal_of w) e, meant, h e)
        (ap exit_numbers (sym (in_page page n (subst (λ s. is_exit (ending_of s) ≡ true) meant x))))
    go false e = ap exit_numbers (by_itself n (literal_of w) (literal_service page n) e)

-- ---- what an exit carries

reports_direct : (page : List ℕ) (n low : ℕ) → direct n ≡ exit_of page low → (takes_literal low ≡ false) × (n ≡ low)
unfolding exit_of
reports_direct page n low e = go (takes_literal low) refl e
  where
    go : (t : Bool) → takes_literal low ≡ t → direct n ≡ cond t (by_literal low (word_at page low)) (direct low)
        → (takes_literal low ≡ false) × (n ≡ low)
    go true t e = (cc, cc)
    go false t e = (t, cc)

reports_literal : (page : List ℕ) (n w low : ℕ) → by_literal n w ≡ exit_of page low → (n ≡ low) × (w ≡ word_at page low)
unfolding exit_of
reports_literal page n w low e = go (takes_literal low) e
  where
    go : (t : Bool) → by_literal n w ≡ cond t (by_literal low (word_at page low)) (direct low) → (n ≡ low) × (w ≡ word_at page low)
    go true e = (cc, cc)
    go false e = (cc, cc)

decodes_at : (program : Program) (r : Record) {exit : Exit} (here : ServiceAt program r exit) (stop : StopNumbers) → here.low ≡ stop.value
    → (takes_literal here.low ≡ true → stop.literal ≡ word_at program.page here.low) → Decodes program.page stop
decodes_at program r here stop v h =
    let page = program.page in
    let exits : is_exit (ending_of (service_of page here.low)) ≡ true =
    sym (same_exits program.never_return (service_of page here.low)) ∙ here.column in
    let low : here.low < 256 = subst InWidth here.stands (in_width program r.place) in
    let decoded : decoded_stop stop ≡ exit_numbers (service_of page stop.value) =
    subst (λ n. decoded_exit n stop.literal ≡ exit_numbers (service_of page n)) v (told page here.low stop.literal low exits h) in
    let column = subst (λ n. is_exit (ending_of (service_of page n)) ≡ true) v exits in
    record {
      decodes = decoded;
      is_exit = ap (λ (x : ExitNumbers). eqb x.kind 0) decoded ∙ kinds (service_of page stop.value) ∙ ap not column;
    }

-- a host's call that stops at a service, as demand 3 has it of each, tells what decodes to the exit of that service, over a kind of
-- machine whose services are a page's
pub exit_decoded : (host : Host) (program_in : host.kind.Setting → Program)
    → ((setting : host.kind.Setting) (r : Record) (exit : Exit) → host.kind.ServiceAt setting r exit → ServiceAt (program_in setting) r exit)
    → (setting : host.kind.Setting) (c : RecordCall host) → OwnCall (host_machine host setting) (handed_record host c) (gave_record host c)
    → AtService (host.crossed c.call).stop → Decodes (program_in setting).page (host.crossed c.call).stop
exit_decoded host program_in stands setting c sound at = by at
  where
    program : Program
    program = program_in setting

    stop : StopNumbers
    stop = (host.crossed c.call).stop

    stops-by : (k : ℕ) → stop.kind ≡ k
        → StopsBy (host_machine host setting) (handed_record host c) (gave_record host c) (stop_in k stop.value stop.literal)
    stops-by k e =
        subst (λ j. StopsBy (host_machine host setting) (handed_record host c) (gave_record host c) (stop_in j stop.value stop.literal)) e
        sound.stops

    by : AtService stop → Decodes program.page stop
    by (inl e) =
        let here = stands setting _ _ (stops-by 1 e).1 in
        let carries = reports_direct program.page stop.value here.low here.reports in
        decodes_at program _ here stop (sym carries.1) (λ t. absurd (true≢false (sym t ∙ carries.0)))
    by (inr e) =
        let here = stands setting _ _ (stops-by 2 e).1 in
        let carries = reports_literal program.page stop.value stop.literal here.low here.reports in
        decodes_at program _ here stop (sym carries.0) (λ t. carries.1)
