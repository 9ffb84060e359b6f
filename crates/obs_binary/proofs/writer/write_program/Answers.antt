use Rattle.obs_binary.proofs.writer.write_program.Goals as goal

pub returns-clause-fits : goal.returns-clause-fits
returns-clause-fits c = record {
  layout = c.requires;
  width = c.header_for-header.ensures.width;
  bz = rw c.as_slice-3.ensures at c.in_ok-put_bz.ensures.fits;
  ft = rw c.as_slice-4.ensures at c.in_ok-put_ft.ensures.fits;
  pt = rw c.as_slice-6.ensures at c.in_ok-put_pt.ensures.fits;
  ft_sizes = rw c.as_slice-5.ensures at c.in_ok-put_ft.ensures.sizes;
  pt_sizes = rw c.as_slice-7.ensures at c.in_ok-put_pt.ensures.sizes;
  outs = rw c.as_slice-8.ensures at c.in_ok-put_outs.ensures.fits;
  signals = rw c.as_slice-9.ensures at c.in_ok-put_signals.ensures.fits;
}
