mod Numbers
mod Faults
mod Forms
