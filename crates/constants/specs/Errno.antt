-- The numbers of the refusals (document 01, "Numbers given back").
-- Assumes nothing.
use Rattle.std.specs.Prelude.{ℕ}
use Rattle.constants.specs.Kernel as kernel
use Rattle.constants.specs.declared.Errno.{Errno}
use Rattle.constants.specs.declared.Errno.TheVariants.{EPERM, EBADF, EAGAIN, EBUSY, EINVAL, EMFILE, ENOTTY, ENONET}

abbrev pub errno_number : Errno → ℕ
errno_number EPERM = kernel.EPERM
errno_number EBADF = kernel.EBADF
errno_number EAGAIN = kernel.EAGAIN
errno_number EBUSY = kernel.EBUSY
errno_number EINVAL = kernel.EINVAL
errno_number EMFILE = kernel.EMFILE
errno_number ENOTTY = kernel.ENOTTY
errno_number ENONET = kernel.ENONET
