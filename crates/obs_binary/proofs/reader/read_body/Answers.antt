use Rattle.obs_binary.specs.Reading.{past_header}
use Rattle.obs_binary.proofs.reader.read_body.Goals as goal

pub returns : goal.returns
unfolding past_header
returns c =
    let outs = rw (c.as_slice.ensures, c.split_at.ensures.front) at c.in_ok-outs.ensures in
    let signals = rw (c.as_slice-2.ensures, c.split_at.ensures.back) at c.in_ok-signals.ensures in
    let ft = rw c.as_slice-3.ensures at c.in_ok-ft.ensures.ops in
    let ft_sizes = rw c.as_slice-3.ensures at c.in_ok-ft.ensures.sizes in
    let pt = rw c.as_slice-4.ensures at c.in_ok-pt.ensures.ops in
    let pt_sizes = rw c.as_slice-4.ensures at c.in_ok-pt.ensures.sizes in
    rw (c.in_ok-bz.ensures.read, c.in_ok-sized_ft.ensures.read, c.in_ok-sized_pt.ensures.read, c.in_ok-out_heads.ensures.read, c.in_ok-signal_heads.ensures.read, outs, signals, ft, ft_sizes, pt, pt_sizes)
