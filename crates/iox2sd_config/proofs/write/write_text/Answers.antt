use Rattle.iox2sd_config.proofs.Prelude.{Err, refl}
use Rattle.iox2_config_file.specs.declared.write.ConfigWriteError.TheVariants.{NoMemory}
use Rattle.iox2sd_config.proofs.write.write_text.Goals as goal

pub returns-in-Err : goal.returns-in-Err
returns-in-Err c =
    let default = c.in-Err-OutOfRange.ensures.written in
    (Err NoMemory, (default.0, default.1, tt), tt, (c.of-in-Err.ensures, refl))
