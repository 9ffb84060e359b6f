-- What the counts of faults say after a run and its message.

use Rattle.std.proofs.Common.{◌≡◌, ◌≢◌, ℕ, sym, subst}
use Rattle.tool_io.specs.declared.host.Place as place
use Rattle.tool_io.specs.declared.host.Place.TheVariants as at
use Rattle.tool_io.specs.Host.{Rose, RoseAt}
use Rattle.tool_words.specs.declared.status.Status as status
use Rattle.tool_io.proofs.HostLaws.{Rose-by_one}
use Rattle.tool_words.specs.Causes.{RunCause, NoOtherRose, TellsNoCall}

-- a rise at a place other than Err
rose_at : (before between now : place.Place → ℕ) (p : place.Place) → RoseAt before between p → ((q : place.Place) → q ≢ at.Err → now q ≡ between q) → NoOtherRose before now → p ≢ at.Err → ⊥
rose_at before between now p rose same none other = none p other (subst (λ n. Rose (before p) n) (sym (same p other)) (Rose-by_one (before p) (between p) rose.rose))

-- a failed message after a run
pub message_rose : (before between now : place.Place → ℕ) → between at.Err ≡ before at.Err → RoseAt between now at.Err → Rose (before at.Err) (now at.Err)
message_rose before between now stays failed = subst (λ n. Rose n (now at.Err)) stays (Rose-by_one (between at.Err) (now at.Err) failed.rose)

-- the count of Err stays in a run
pub err_stays : (answer : status.Status) (before between : place.Place → ℕ) → RunCause answer before between → between at.Err ≡ before at.Err
err_stays (status.TheVariants.OpenFault at.Err) before between cause = absurd cause
err_stays (status.TheVariants.OpenFault p) before between cause = cause.others at.Err (λ e. cc)
err_stays (status.TheVariants.ReadFault at.Err) before between cause = absurd cause
err_stays (status.TheVariants.ReadFault p) before between cause = cause.others at.Err (λ e. cc)
err_stays (status.TheVariants.WriteFault at.Err) before between cause = absurd cause
err_stays (status.TheVariants.WriteFault p) before between cause = cause.others at.Err (λ e. cc)
err_stays answer before between cause = cause at.Err

-- where no count rose but that of Err, the status concerns no call
pub no_call : (answer : status.Status) (before between now : place.Place → ℕ) → RunCause answer before between → ((q : place.Place) → q ≢ at.Err → now q ≡ between q) → NoOtherRose before now → TellsNoCall answer
no_call (status.TheVariants.OpenFault at.Err) before between now cause same none = cause
no_call (status.TheVariants.OpenFault p) before between now cause same none = rose_at before between now p cause same none (λ e. cc)
no_call (status.TheVariants.ReadFault at.Err) before between now cause same none = cause
no_call (status.TheVariants.ReadFault p) before between now cause same none = rose_at before between now p cause same none (λ e. cc)
no_call (status.TheVariants.WriteFault at.Err) before between now cause same none = cause
no_call (status.TheVariants.WriteFault p) before between now cause same none = rose_at before between now p cause same none (λ e. cc)
no_call answer before between now cause same none = tt
