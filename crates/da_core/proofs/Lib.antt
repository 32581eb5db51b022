mod Further
mod NextDues
mod Told
